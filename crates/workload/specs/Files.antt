-- What reading a workload file promises.
use Rattle.std.specs.Prelude.{◌≡◌, ℕ, ◌+◌, ◌≤◌, ◌⊎◌, List, length, drop, vec_items}
use Rattle.rules.specs.declared.state.State.{State}
use Rattle.workload.specs.declared.fault.Fault.{Fault}
use Rattle.workload.specs.declared.fault.Fault.TheVariants.{Memory}
use Rattle.workload.specs.declared.file.FileParts.{FileParts}
use Rattle.workload.specs.declared.file.NoteSpan.{NoteSpan}
use Rattle.workload.specs.declared.definition.Workload.{Workload}
use Rattle.workload.specs.Encoding.{encoded}
use Rattle.workload.specs.Reads.{Accepted, Contents, Refused}
use Rattle.workload.specs.Types.{all_states}

-- the bytes of a workload and a note
abbrev pub file_of : Workload → List ℕ → List ℕ
file_of w note = encoded (vec_items w.parents) w.code_count (all_states (vec_items w.types)) note

-- the span is that of the note, which ends the file
abbrev pub Spans : List ℕ → NoteSpan → List ℕ → Type 0
Spans bs s note = (s.place + s.length ≡ length bs) × (drop s.place bs ≡ note)

-- what the parts of a file hold, with its job types
abbrev pub contents_of : FileParts → List (List State) → Contents
contents_of p types = record { parents = p.lock.tree.parents.now; codes = p.code_count; types = types; note = p.note.now }

-- the file is the workload's with a note, and the span is the note's
abbrev pub Filled : List ℕ → Workload → NoteSpan → Type 0
Filled bs w s = (note : List ℕ) × (bs ≡ file_of w note) × (length note ≤ 1000) × Spans bs s note

-- why a file was not read: its first fault, or no memory for one that has no fault
abbrev pub NotRead : List ℕ → Fault → Type 0
NotRead bs f = Refused bs f ⊎ (f ≡ Memory) × ((x : Contents) × Accepted bs x)
