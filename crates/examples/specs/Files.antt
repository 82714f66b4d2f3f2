-- What reading answers for a small file, whole, cut short and too long.
use Rattle.std.specs.Prelude.{◌≡◌, ℕ, ◌⊎◌, List, [], ◌∷◌, ◌++◌, take, vec_items, Some, Ok, Err, Result, MatchResult}
use Rattle.workload.specs.declared.definition.Workload.{Workload}
use Rattle.workload.specs.declared.fault.Fault.{Fault}
use Rattle.workload.specs.declared.fault.Fault.TheVariants.{Memory}
use Rattle.workload.specs.declared.file.NoteSpan.{NoteSpan}
use Rattle.workload.specs.Files.{Filled, NotRead}
use Rattle.workload.specs.Numbers.{numbered}
use Rattle.workload.specs.Reads.{Accepted, Refused}
use Rattle.workload.specs.Small.{small_contents, small_file, small_state}
use Rattle.workload.specs.Types.{all_states}

-- what the contract of `read` says of a file, the caller's workload before and after, and the answer
abbrev pub MayRead : List ℕ → (before after : Workload) → Result NoteSpan Fault → Type 0
MayRead bs before after r = MatchResult r (λ s. Filled bs after s) (λ f. (after ≡ before) × NotRead bs f)

-- The workload is the one that the small file holds: one item, four codes and one type of one state.
pub record IsSmall (w : Workload) : Type 0 where
  pub parents : vec_items w.parents ≡ 255 ∷ []
  pub codes : w.code_count ≡ 4
  pub types : all_states (vec_items w.types) ≡ (small_state ∷ []) ∷ []

-- The bytes have a first fault, and reading them, whatever the workload, is refused with this number and place.
pub record RefusedWith (bs : List ℕ) (number place : ℕ) : Type 0 where
  pub first : Fault
  pub is_first : Refused bs first
  pub refused
      : (before after : Workload) (r : Result NoteSpan Fault) → MayRead bs before after r
      → (f : Fault) × (r ≡ Err f) × (numbered f ≡ Some (number, place))

-- The file of 23 bytes, with an empty note; its bytes stand beside the definitions of files.
pub record FileAnswers : Type 0 where
  pub whole : Accepted small_file small_contents
  -- So reading it answers that the note, which is empty, stands at its end, and leaves that workload; or memory is wanting.
  pub reads
      : (before after : Workload) (r : Result NoteSpan Fault) → MayRead small_file before after r
      → ((r ≡ Ok (record { place = 23; length = 0 })) × IsSmall after) ⊎ (r ≡ Err Memory)
  -- cut short by a byte, it misses one
  pub short : RefusedWith (take 22 small_file) 1 22
  -- and any byte more is one too many
  pub longer : (b : ℕ) → RefusedWith (small_file ++ b ∷ []) 7 23
