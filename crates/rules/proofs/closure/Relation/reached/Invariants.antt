use Rattle.std.proofs.Common.{◌-◌}
use Rattle.itemset.proofs.Counting.{count}
use Rattle.rules.specs.Reach.{along}
use Rattle.rules.proofs.Reaching.{Reaching}
use Rattle.rules.proofs.closure.Relation.reached.Given as goal

abbrev pub invariant-loop-way : goal.invariant-loop-way
invariant-loop-way g l = Reaching (along l.way l.self.rows) l.fn.from l.reached

abbrev pub decreases-loop-way : goal.decreases-loop-way
decreases-loop-way g l = 64 - count l.reached 64
