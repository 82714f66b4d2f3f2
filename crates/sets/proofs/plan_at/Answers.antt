use native.Mathlib.Omega.{arith}
use Rattle.workload.specs.View.{HasState, view}
use Rattle.workload.proofs.Keeping.{by_cases}
use Rattle.workload.proofs.Uses.{few_states}
use Rattle.sets.proofs.plan_at.Goals as goal

pub returns : goal.returns
returns c =
    let w = c.args.workload.now in
    let n = c.in_ok-count.ensures in
    let there : HasState (view w) c.args.t c.args.s = (n.0, omega (arith, n.1)) in
    by_cases c.plan.result c.plan.ensures (λ h q. h q.0) (λ p h. (there, (omega (arith, there.1, few_states w c.args.t n.0), h.1)))
