-- A workload in the words of the model, and what calls on it answer.
use Rattle.std.specs.Prelude.{◌≡◌, ℕ, ◌<◌, ◌≤◌, [], ◌∷◌, length, ℤ, vec_items, Option, MatchOption, ◌≢◌}
use Rattle.model.specs.Workload as model
use Rattle.rules.specs.declared.state.State.{State}
use Rattle.rules.specs.Rules.{root_mark}
use Rattle.rules.specs.View.{arcs_of, workload_of}
use Rattle.workload.specs.declared.definition.Workload.{Workload}
use Rattle.workload.specs.Types.{all_states, lone_state}

abbrev pub view : Workload → model.Workload
view w = workload_of (vec_items w.parents) w.code_count (all_states (vec_items w.types))

-- one item, one code, and one type of one terminal state with this operand
pub record Single (w : Workload) (operand : ℤ) : Type 0 where
  pub parents : vec_items w.parents ≡ root_mark ∷ []
  pub codes : w.code_count ≡ 1
  pub types : all_states (vec_items w.types) ≡ (lone_state operand ∷ []) ∷ []

-- d is an item that has a parent
abbrev pub HasParent : model.Workload → ℕ → Type 0
HasParent W d = (d < W.items) × (d ≢ W.top)

-- s is a state of type t
abbrev pub HasState : model.Workload → ℕ → ℕ → Type 0
HasState W t s = (t < W.types) × (s < W.states t)

-- x is the state s of type t
pub record IsState (W : model.Workload) (t s : ℕ) (x : State) : Type 0 where
  pub item : x.item ≡ W.item t s
  pub code : x.code ≡ W.code t s
  pub operand : x.operand ≡ W.operand t s
  pub arcs : arcs_of x ≡ W.arcs t s
  -- of its four arc bytes at most all are in use
  pub few : x.arc_count ≤ 4
  pub four : length x.arcs ≡ 4

-- an answer of which P holds where what is asked for is there, and nothing where it is not
abbrev pub Answers : {X : Type 0} → Option X → Type 0 → (X → Type 0) → Type 0
Answers r There P = MatchOption r (There → ⊥) (λ x. There × P x)
