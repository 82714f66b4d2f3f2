use Rattle.std.proofs.Common.{arith}
use Rattle.rules.proofs.Closing.{closed_all, closing_more, closing_none}
use Rattle.rules.proofs.closure.Relation.closed.Goals as goal

pub loop-k-init : goal.loop-k-init
loop-k-init g c = closing_none c.args.self.now.rows

pub loop-k-preserved : goal.loop-k-preserved
loop-k-preserved g c =
    closing_more c.args.self.now.rows c.loop-k.closed.rows c.join_through.new.self.rows c.loop-k.k c.loop-k.invariant c.join_through.ensures

pub returns : goal.returns
returns g c = closed_all c.args.self.now.rows c.loop-k.closed.rows c.loop-k.k (omega arith) c.loop-k.invariant
