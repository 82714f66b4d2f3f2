-- What a plan says of its job type.
use Rattle.std.specs.Prelude.{◌≡◌, ℕ, ◌<◌, ◌≤◌, List, [], length, get_or, slice_index_or}
use Rattle.model.specs.Workload.{Workload, WellFormed, Unreachable, Unlockable, Named, LocalRoot, Local, LocalChild, LocalLeaf}
use Rattle.itemset.specs.Members.{nothing}
use Rattle.rules.specs.declared.plan.Plan.{Plan}
use Rattle.rules.specs.declared.state.State.{State}
use Rattle.rules.specs.Rules.{nowhere}
use Rattle.rules.specs.Sets.{Exactly}
use Rattle.rules.specs.View.{workload_of}

-- each part of the plan is what the definitions say of the type t
pub record Planned (W : Workload) (t : ℕ) (p : Plan) : Type 0 where
  pub root : LocalRoot W t p.root
  pub local : Exactly p.local (Local W t)
  pub named : Exactly p.named (Named W t)
  pub leaves : Exactly p.leaves (LocalLeaf W t)
  pub children : (d : ℕ) → d < W.items → Exactly (slice_index_or p.children d nothing) (LocalChild W t d)
  -- of the numbers that no way from s names, the set holds the items
  pub unreachable : (s : ℕ) → s < W.states t → Exactly (slice_index_or p.unreachable s nothing) (λ d. (d < W.items) × Unreachable W t s d)
  pub unlockable : (s : ℕ) → s < W.states t → Exactly (slice_index_or p.unlockable s nothing) (Unlockable W t s)

-- the parts make a well-formed workload, and its type t has these states, each with its four arc bytes
pub record HasType (parents : List ℕ) (codes : ℕ) (types : List (List State)) (t : ℕ) (states : List State) : Type 0 where
  pub formed : WellFormed (workload_of parents codes types)
  pub is_type : t < length types
  pub its_states : get_or types t [] ≡ states
  pub four : (s : ℕ) → s < length states → length (get_or states s nowhere).arcs ≡ 4

-- p is the plan of the type in every workload over this tree that has a type with these states
abbrev pub PlanFor : List ℕ → List State → Plan → Type 0
PlanFor parents states p =
    (codes t : ℕ) (types : List (List State)) → HasType parents codes types t states → Planned (workload_of parents codes types) t p

-- no workload over this tree has a type with these states, with at most 64 items and at most 32 states
abbrev pub NoType : List ℕ → List State → Type 0
NoType parents states =
    length parents ≤ 64 → length states ≤ 32 → (codes t : ℕ) (types : List (List State)) → HasType parents codes types t states → ⊥

-- past the end of a list of plans
abbrev pub no_plan : Plan
no_plan = record { root = 0; local = nothing; named = nothing; leaves = nothing; children = []; unreachable = []; unlockable = [] }

-- the plans are those of the types, in their order
pub record Kept (W : Workload) (plans : List Plan) : Type 0 where
  pub long : length plans ≡ W.types
  pub each : (t : ℕ) → t < W.types → Planned W t (slice_index_or plans t no_plan)
