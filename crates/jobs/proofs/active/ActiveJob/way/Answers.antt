use Rattle.std.proofs.Common.{ℕ, subst}
use Rattle.model.specs.Workload.{Above, Local}
use Rattle.rules.specs.Sets.{Exactly}
use Rattle.rules.proofs.Gathering.{both}
use Rattle.workload.specs.View.{view}
use Rattle.jobs.proofs.active.ActiveJob.way.Goals as goal

pub returns : goal.returns
returns c =
    let a = c.args.self.now in
    let W = view a.workload.now in
    let t = a.job.now.job_type in
    let item = W.item t a.job.now.state in
    let found = rw c.unwrap-above.ensures at c.above.ensures in
    let above : Exactly c.unwrap-above.result (λ d. Above W d item) = subst (λ (x : ℕ). Exactly c.unwrap-above.result (λ d. Above W d x)) c.state.ensures.item found.1 in
    both (Local W t) (λ d. Above W d item) c.plan.result.now.local c.unwrap-above.result c.intersection.result c.plan.ensures.local above c.intersection.ensures
