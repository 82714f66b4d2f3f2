use Rattle.std.proofs.Common.{ℤ, ap, ◌∙◌, arith, w32, SFits, rules, to_z-of_z}
use Rattle.model.specs.Workload.{choice}
use Rattle.workload.specs.View.{view}
use Rattle.jobs.proofs.Looks.{takes_arc}
use Rattle.jobs.proofs.active.ActiveJob.next_state.Goals as goal

pub returns : goal.returns
returns c =
    let j = c.args.self.now.job.now in
    let x = c.state-state.result in
    let e = c.state-state.ensures in
    let f : SFits w32 j.register = search rules in
    takes_arc (view c.args.self.now.workload.now) j.job_type j.state j.register x.arc_count x.arcs c.arc_of-arc.result e.arcs e.few e.four
    (omega (arith, c.if-state-eq0.false)) (c.arc_of-arc.ensures ∙ ap (λ (p : ℤ). choice p x.arc_count) (to_z-of_z f))
