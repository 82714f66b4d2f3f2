-- What writing a workload file promises, and both round trips.
use Rattle.std.specs.Prelude.{◌≡◌, ℕ, ◌+◌, ◌<◌, ◌≤◌, List, length, take, drop, Ok, Err, vec_items, Result}
use Rattle.workload.specs.declared.definition.Workload.{Workload}
use Rattle.workload.specs.declared.fault.Fault.{Fault}
use Rattle.workload.specs.declared.fault.Fault.TheVariants.{Memory}
use Rattle.workload.specs.declared.file.NoteSpan.{NoteSpan}
use Rattle.workload.specs.Files.{NotRead, file_of}
use Rattle.workload.specs.Types.{all_states}
use Rattle.writing.specs.declared.refusal.TripRefusal.{TripRefusal}
use Rattle.writing.specs.declared.refusal.TripRefusal.TheVariants.{Reading, Writing}
use Rattle.writing.specs.declared.refusal.WriteRefusal.{WriteRefusal}
use Rattle.writing.specs.declared.refusal.WriteRefusal.TheVariants.{NoteTooLong, BufferTooShort}

-- the file is the front of the buffer, its first n bytes, and the later bytes are as they were
pub record Stands (file old new : List ℕ) (n : ℕ) : Type 0 where
  pub size : n ≡ length file
  pub room : n ≤ length old
  pub front : take n new ≡ file
  pub later : drop n new ≡ drop n old

-- a note that is too long is told first, then a buffer that is too short
abbrev pub Written : (file note old new : List ℕ) → Result ℕ WriteRefusal → Type 0
Written file note old new (Ok n) = (length note ≤ 1000) × Stands file old new n
Written file note old new (Err NoteTooLong) = (1000 < length note) × (new ≡ old)
Written file note old new (Err BufferTooShort) = (length note ≤ 1000) × (length old < length file) × (new ≡ old)

-- the file is that of the workload and some note
abbrev pub Holds : List ℕ → Workload → Type 0
Holds file w = (note : List ℕ) × (file ≡ file_of w note) × (length note ≤ 1000)

-- the file is written again, or the buffer is too short for it
abbrev pub Copied : (file old new : List ℕ) → Result ℕ WriteRefusal → Type 0
Copied file old new (Ok n) = Stands file old new n
Copied file old new (Err e) = (e ≡ BufferTooShort) × (length old < length file) × (new ≡ old)

-- a file is read and written again
abbrev pub Rewritten : (file old new : List ℕ) → (before after : Workload) → Result ℕ TripRefusal → Type 0
Rewritten file old new before after (Ok n) = Holds file after × Stands file old new n
Rewritten file old new before after (Err (Reading f)) = NotRead file f × (new ≡ old) × (after ≡ before)
Rewritten file old new before after (Err (Writing e)) = Holds file after × Copied file old new (Err e)

-- two workloads with the same parents, the same number of codes and the same states of each type
pub record Same (v w : Workload) : Type 0 where
  pub parents : vec_items v.parents ≡ vec_items w.parents
  pub codes : v.code_count ≡ w.code_count
  pub types : all_states (vec_items v.types) ≡ all_states (vec_items w.types)

-- the note ends its file and stands at the span in the bytes
pub record Noted (file note bytes : List ℕ) (s : NoteSpan) : Type 0 where
  pub end : s.place + s.length ≡ length file
  pub text : take s.length (drop s.place bytes) ≡ note

-- the workload w and its note are read again from the bytes; only memory may be wanting
abbrev pub Again : Workload → (note bytes : List ℕ) → (before after : Workload) → Result NoteSpan Fault → Type 0
Again w note bytes before after (Ok s) = Same w after × Noted (file_of w note) note bytes s
Again w note bytes before after (Err f) = (f ≡ Memory) × (after ≡ before)

-- whichever workload and note have the first n bytes for their file
abbrev pub ReadAgain : (bytes : List ℕ) (n : ℕ) → (before after : Workload) → Result NoteSpan Fault → Type 0
ReadAgain bytes n before after r = (w : Workload) (note : List ℕ) → take n bytes ≡ file_of w note → length note ≤ 1000 → Again w note bytes before after r

-- a workload and a note are written and read again
abbrev pub Reread : Workload → (note old new : List ℕ) → (before after : Workload) → Result NoteSpan TripRefusal → Type 0
Reread w note old new before after (Ok s) = Written (file_of w note) note old new (Ok (length (file_of w note))) × Same w after × Noted (file_of w note) note new s
Reread w note old new before after (Err (Reading f)) = Written (file_of w note) note old new (Ok (length (file_of w note))) × (f ≡ Memory) × (after ≡ before)
Reread w note old new before after (Err (Writing e)) = Written (file_of w note) note old new (Err e) × (after ≡ before)
