use Rattle.std.proofs.Common.{arith}
use Rattle.rules.specs.Reach.{Converse, Joined}
use Rattle.rules.proofs.Closing.{behind_closed}
use Rattle.rules.proofs.Spreading.{ahead_still, spread_all, spreads_more, spreads_none}
use Rattle.rules.proofs.closure.Relation.spread_on.Goals as goal

pub loop-init : goal.loop-init
loop-init g c = spreads_none (Converse (Joined c.args.along.now.rows)) c.args.self.now.rows

pub returns-then-not-push : goal.returns-then-not-push
returns-then-not-push g c =
    let E = Converse (Joined c.args.along.now.rows) in
    let first = c.args.self.now.rows in
    let new = c.push.new.self.rows in
    λ s l. spread_all E first new (spreads_more E first c.loop.self.rows new c.push.result (omega arith) c.loop.invariant c.push.ensures) (c.push.ensures.quiet c.if-not-push.true) s

pub loop-preserved : goal.loop-preserved
loop-preserved g c =
    spreads_more (Converse (Joined c.args.along.now.rows)) c.args.self.now.rows c.loop.self.rows c.push.new.self.rows c.push.result (omega arith) c.loop.invariant c.push.ensures

pub returns : goal.returns
returns g c =
    let rows = c.loop.self.rows in
    λ s l. ahead_still (Converse (Joined c.args.along.now.rows)) c.args.self.now.rows rows c.loop.invariant s _
    (behind_closed c.args.along.now.rows c.closed.result.rows rows c.closed.ensures s _ _ (c.handed_on.ensures s (omega arith)) (c.unite.ensures s (omega arith)))
