use Rattle.std.proofs.Common.{arith}
use Rattle.std.proofs.lemmas.Bool.{both_ways}
use Rattle.workload.proofs.Ranges.{arc_wrong, none_wrong}
use Rattle.workload.proofs.read.Limits.wrong_byte.Goals as goal

pub returns-then-not-right_arc : goal.returns-then-not-right_arc
returns-then-not-right_arc c =
    let l = c.args.self in
    let s = c.args.state in (
      omega arith,
      arc_wrong l.items l.codes l.states s c.loop-j.j (omega arith) (λ r. both_ways c.right_arc.result c.if-not-right_arc.true (c.right_arc.ensures.1 r)),
      λ q b. none_wrong l.items l.codes l.states s q (λ e. omega arith) (λ e. omega arith) (λ e. omega arith) (λ i e m. c.loop-j.invariant i (omega arith)),
    )
