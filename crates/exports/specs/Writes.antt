-- What is told of writing the workload of a file again.
use Rattle.std.specs.Prelude.{◌≡◌, ℕ, List, Ok, Err, Result}
use Rattle.exports.specs.Told.{done, fault_end}
use Rattle.exports.specs.declared.writes.WriteTold.{WriteTold}
use Rattle.workload.specs.Files.{NotRead, file_of}
use Rattle.workload.specs.Numbers.{numbered}
use Rattle.workload.specs.declared.definition.Workload.{Workload}
use Rattle.workload.specs.declared.fault.Fault.{Fault}
use Rattle.writing.specs.Files.{Holds, Written}
use Rattle.writing.specs.Numbers.{write_number}
use Rattle.writing.specs.declared.refusal.WriteRefusal.{WriteRefusal}

abbrev pub write_told : Result ℕ WriteRefusal → WriteTold
write_told (Ok n) = record { end = done; refusal = 0; length = n }
write_told (Err e) = record { end = done; refusal = write_number e; length = 0 }

-- The file's workload is written with the note, or refused, or the file is not read and the buffer is as it was.
pub data TellsWritten (bs note old new : List ℕ) (t : WriteTold) : Type 0 where
  wrote
      : (w : Workload) (r : Result ℕ WriteRefusal) → Holds bs w → Written (file_of w note) note old new r → t ≡ write_told r
      → TellsWritten bs note old new t
  cannot
      : (f : Fault) → NotRead bs f → new ≡ old → t ≡ record { end = fault_end (numbered f); refusal = 0; length = 0 }
      → TellsWritten bs note old new t
