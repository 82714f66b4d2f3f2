use Rattle.std.proofs.Common.{◌≡◌, take, vec_items}
use Rattle.std.specs.List.{AllByRecursion as All}
use Rattle.rules.specs.Plans.{PlanFor}
use Rattle.workload.specs.Types.{all_states}
use Rattle.workload.proofs.plans.planned_types.Given as goal

abbrev pub invariant-loop-row : goal.invariant-loop-row
invariant-loop-row l = record {
  states : all_states (vec_items l.types) ≡ take l.row-index l.rows;
  plans : All (λ j. PlanFor l.lock.tree.parents.now (vec_items j.states) j.plan) (vec_items l.types);
}
