-- Two unlockable sets of one item each.
use Rattle.std.specs.Prelude.{◌≡◌, ◌↔◌, ℕ, List, [], ◌∷◌}
use Rattle.model.specs.Workload.{Workload, Unlockable}
use Rattle.rules.specs.Lawful.{Lawful}
use Rattle.rules.specs.View.{workload_of}
use Rattle.rules.specs.declared.state.State.{State}
use Rattle.examples.specs.States.{last, leading, forking}

-- 1 and 2 stand right below the root, 0, and 3 right below 1
abbrev pub sets_parents : List ℕ
sets_parents = 255 ∷ 0 ∷ 0 ∷ 1 ∷ []

-- type 0 works on the item 1 and then on 3
abbrev pub descent : List State
descent = leading 1 0 1 ∷ last 3 0 ∷ []

-- type 1 works on the item 1, then perhaps on 2, and then on 3
abbrev pub detour : List State
detour = forking 1 0 1 2 ∷ leading 2 0 2 ∷ last 3 0 ∷ []

abbrev pub sets_types : List (List State)
sets_types = descent ∷ detour ∷ []

abbrev pub sets_workload : Workload
sets_workload = workload_of sets_parents 1 sets_types

pub record UnlockableSets : Type 0 where
  pub lawful : Lawful sets_parents 1 sets_types
  -- in the second state of the descent, the item 1, though the job still needs an item below it
  pub descends : (d : ℕ) → Unlockable sets_workload 0 1 d ↔ (d ≡ 1)
  -- in the last state of the detour, the item 2 and not 1: the state before the last cannot reach 1 either
  pub returns : (d : ℕ) → Unlockable sets_workload 1 2 d ↔ (d ≡ 2)
