-- The sets of a workload hold items of the workload.
use Rattle.std.proofs.Common.{ℕ, ◌<◌, rules, slice_index_or, subst}
use Rattle.itemset.specs.Members.{nothing}
use Rattle.model.specs.Workload.{Local, Unlockable}
use Rattle.model.proofs.Tree as tree
use Rattle.rules.specs.declared.plan.Plan.{Plan}
use Rattle.rules.specs.Plans.{Planned}
use Rattle.rules.proofs.Planning.{from_state}
use Rattle.sets.specs.Items.{ItemsOf}
use Rattle.workload.specs.declared.definition.Workload.{Workload}
use Rattle.workload.specs.View.{HasState, view}
use Rattle.workload.proofs.Uses.{well_formed}

unlockable_item : (w : Workload) (t s d : ℕ) → t < (view w).types → Unlockable (view w) t s d → d < (view w).items
unlockable_item w t s d i u =
    let n = u.named_before in
    subst (λ (x : ℕ). x < (view w).items) n.4 ((well_formed w).names_item t n.1 i (from_state n.3 n.2.0))

pub unlockable_items : (w : Workload) (t s : ℕ) (p : Plan) → Planned (view w) t p → HasState (view w) t s → ItemsOf (view w) (Unlockable (view w) t s) (slice_index_or p.unlockable s nothing)
unlockable_items w t s p q h = λ d. search (rules, q.unlockable s h.1 d, unlockable_item w t s d h.0)

pub local_item : (w : Workload) (t d : ℕ) → t < (view w).types → Local (view w) t d → d < (view w).items
local_item w t d i l = tree.local_item (view w) (well_formed w) t i l
