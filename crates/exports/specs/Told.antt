-- How calls end, and what they tell of a file.
use Rattle.std.specs.Prelude.{◌≡◌, ℕ, ◌⊎◌, List, Some, None, Option}
use Rattle.exports.specs.declared.told.End.{End}
use Rattle.exports.specs.declared.files.FileTold.{FileTold}
use Rattle.workload.specs.declared.definition.Workload.{Workload}
use Rattle.workload.specs.declared.fault.Fault.{Fault}
use Rattle.workload.specs.declared.fault.Fault.TheVariants.{Memory}
use Rattle.workload.specs.declared.file.NoteSpan.{NoteSpan}
use Rattle.workload.specs.Files.{Filled, NotRead}
use Rattle.workload.specs.Numbers.{numbered}
use Rattle.workload.specs.Reads.{Refused}
use Rattle.workload.specs.View.{view}

-- the call did what it is for; what it looks for is not there; a caller's slice is too short; memory is wanting
abbrev pub done : End
done = record { number = 0; place = 0 }

abbrev pub nothing : End
nothing = record { number = 253; place = 0 }

abbrev pub no_room : End
no_room = record { number = 254; place = 0 }

abbrev pub no_memory : End
no_memory = record { number = 255; place = 0 }

-- the number of a fault and its place, or want of memory
abbrev pub fault_end : Option (ℕ × ℕ) → End
fault_end (Some p) = record { number = p.0; place = p.1 }
fault_end None = no_memory

-- the file is refused, with f as its first fault, and then Same holds, or memory is wanting
abbrev pub Fails : List ℕ → Type 0 → Fault → Type 0
Fails bs Same f = (Refused bs f × Same) ⊎ f ≡ Memory

-- How a call ends that makes calls under a file's workload: it did what it is for, and then P holds, or it fails,
-- or a caller's slice is too short. Same says that the caller's slices are as they were. Where memory is wanting, nothing is said of them.
pub data Ends (bs : List ℕ) (P Short Same : Type 0) (e : End) : Type 0 where
  does : e ≡ done → P → Ends bs P Short Same e
  cannot : (f : Fault) → Fails bs Same f → e ≡ fault_end (numbered f) → Ends bs P Short Same e
  wants_room : Short → Same → e ≡ no_room → Ends bs P Short Same e

-- what is told of a file that holds the workload, with the note at the span
abbrev pub file_told : Workload → NoteSpan → FileTold
file_told w s =
    record {
      end = record { number = 0; place = s.place };
      note_length = s.length;
      items = (view w).items;
      codes = (view w).codes;
      types = (view w).types;
    }

-- what is told of a file that is not read
abbrev pub not_told : Fault → FileTold
not_told f = record { end = fault_end (numbered f); note_length = 0; items = 0; codes = 0; types = 0 }

-- What is told of a file.
pub data TellsFile (bs : List ℕ) (t : FileTold) : Type 0 where
  holds : (w : Workload) (s : NoteSpan) → Filled bs w s → t ≡ file_told w s → TellsFile bs t
  cannot : (f : Fault) → NotRead bs f → t ≡ not_told f → TellsFile bs t
