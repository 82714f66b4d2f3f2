use Rattle.std.proofs.Common.{◌≡◌, ◌<◌, List, length, get_or, vec_items, sym, ap, ◌∙◌, subst, arith}
use Rattle.rules.specs.declared.plan.Plan.{Plan}
use Rattle.rules.specs.Plans.{Planned}
use Rattle.rules.proofs.Settled.{kept_each}
use Rattle.workload.specs.declared.definition.JobType.{JobType}
use Rattle.workload.specs.Types.{all_plans}
use Rattle.workload.specs.View.{view}
use Rattle.workload.proofs.Keeping.{by_cases}
use Rattle.workload.proofs.Lists.{length_all, plans_read, states_read}
use Rattle.workload.proofs.Uses.{well_formed}
use Rattle.workload.proofs.definition.Workload.job_type.Goals as goal

pub returns : goal.returns
returns c =
    let w = c.args.self.now in
    let t = c.args.t in
    let all = vec_items w.types in
    let same : c.deref.result.now ≡ all = c.deref.ensures.value in
    by_cases c.get.result c.get.ensures.lookup.3 (λ h l. omega (arith, length_all all, ap length same))
    (λ j h.
    let i : t < length all = omega (arith, h.0, ap length same) in
    let k : t < (view w).types = omega (arith, length_all all) in
    let e : j.now ≡ get_or all t j.now = h.1 j.now ∙ ap (λ (xs : List JobType). get_or xs t j.now) same in (
      k,
      (
        ap (λ (y : JobType). vec_items y.states) e ∙ sym (states_read all t j.now i),
        subst (λ (x : Plan). Planned (view w) t x) (plans_read all t j.now i ∙ ap (λ (y : JobType). y.plan) (sym e)) (kept_each (view w) (all_plans all) w.planned (well_formed w) t k),
      ),
    ))
