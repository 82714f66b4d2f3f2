-- Sets of the items of a workload.
use Rattle.std.specs.Prelude.{ℕ, ◌<◌}
use Rattle.itemset.specs.declared.ItemSet.{ItemSet}
use Rattle.model.specs.Workload.{Workload}
use Rattle.rules.specs.Sets.{Exactly}

-- the set holds the items of the workload of which P holds, and nothing else
abbrev pub ItemsOf : Workload → (ℕ → Type 0) → ItemSet → Type 0
ItemsOf W P x = Exactly x (λ d. (d < W.items) × P d)
