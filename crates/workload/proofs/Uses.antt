-- What every workload that exists keeps, outright.
use Rattle.std.proofs.Common.{ℕ, ◌<◌, ◌≤◌}
use mathlib.Core.Logic.{∥∥₁_elim, ∥∥₁_map}
use native.Mathlib.Bridge.{le_prop}
use Rattle.model.specs.Workload.{WellFormed}
use Rattle.model.proofs.Formed.{formed_out}
use Rattle.workload.specs.declared.definition.Workload.{Workload}
use Rattle.workload.specs.View.{view}

-- every workload that exists is well formed, outright: each rule can be decided
pub well_formed : (w : Workload) → WellFormed (view w)
well_formed w = formed_out (view w) (∥∥₁_map w.lawful (λ l. l.formed))

pub few_states : (w : Workload) (t : ℕ) → t < (view w).types → (view w).states t ≤ 32
few_states w t h = ∥∥₁_elim w.lawful le_prop (λ l. (l.states t h).1)

pub few_items : (w : Workload) → (view w).items ≤ 64
few_items w = ∥∥₁_elim w.lawful le_prop (λ l. l.items.1)
