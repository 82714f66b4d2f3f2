use Rattle.std.proofs.Common.{arith}
use Rattle.rules.specs.Reach.{Joined}
use Rattle.rules.proofs.Closing.{ahead_closed}
use Rattle.rules.proofs.Spreading.{ahead_still, spread_all, spreads_more, spreads_none}
use Rattle.rules.proofs.closure.Relation.spread.Goals as goal

pub loop-init : goal.loop-init
loop-init g c = spreads_none (Joined c.args.along.now.rows) c.args.self.now.rows

pub returns-then-not-pull : goal.returns-then-not-pull
returns-then-not-pull g c =
    let E = Joined c.args.along.now.rows in
    let first = c.args.self.now.rows in
    let new = c.pull.new.self.rows in
    λ s l. spread_all E first new (spreads_more E first c.loop.self.rows new c.pull.result (omega arith) c.loop.invariant c.pull.ensures) (c.pull.ensures.quiet c.if-not-pull.true) s

pub loop-preserved : goal.loop-preserved
loop-preserved g c =
    spreads_more (Joined c.args.along.now.rows) c.args.self.now.rows c.loop.self.rows c.pull.new.self.rows c.pull.result (omega arith) c.loop.invariant c.pull.ensures

pub returns : goal.returns
returns g c =
    let rows = c.loop.self.rows in
    λ s l. ahead_still (Joined c.args.along.now.rows) c.args.self.now.rows rows c.loop.invariant s _ (ahead_closed c.args.along.now.rows c.closed.result.rows rows c.closed.ensures s _ (c.take_all.ensures s (omega arith)))
