-- A small file, one cut short and one with a byte too many.
use Rattle.std.specs.Prelude.{ℕ, List, [], ◌∷◌, ◌++◌, take, pos}
use Rattle.workload.specs.declared.fault.Fault.TheVariants.{Missing, Tail}
use Rattle.rules.specs.declared.state.State.{State}
use Rattle.workload.specs.Reads.{Accepted, Contents, Refused}

-- one item, four codes and one type of one state
abbrev pub small_file : List ℕ
small_file = 84 ∷ 76 ∷ 87 ∷ 0 ∷ 1 ∷ 1 ∷ 1 ∷ 4 ∷ 255 ∷ 1 ∷ 0 ∷ 1 ∷ 0 ∷ 0 ∷ 0 ∷ 5 ∷ 0 ∷ 0 ∷ 0 ∷ 0 ∷ 0 ∷ 0 ∷ 0 ∷ []

-- its state: item 0, code 1 with operand 5, terminal
abbrev pub small_state : State
small_state = record { item = 0; code = 1; operand = pos 5; arc_count = 0; arcs = 0 ∷ 0 ∷ 0 ∷ 0 ∷ [] }

abbrev pub small_contents : Contents
small_contents = record { parents = 255 ∷ []; codes = 4; types = (small_state ∷ []) ∷ []; note = [] }

pub record SmallFiles : Type 0 where
  pub whole : Accepted small_file small_contents
  pub short : Refused (take 22 small_file) (Missing 22)
  pub longer : (b : ℕ) → Refused (small_file ++ b ∷ []) (Tail 23)
