use Rattle.std.proofs.Common.{arith}
use Rattle.rules.proofs.Closing.{through}
use Rattle.rules.proofs.closure.Relation.join_through.Goals as goal

pub returns : goal.returns
returns g c =
    let old = c.args.self.now.rows in
    let new = c.loop-row.row-items in
    through old new c.args.k (omega arith) (λ s t l. c.loop-row.invariant.front s (omega arith) t)
