use Rattle.itemset.proofs.Counting.{count}
use Rattle.rules.proofs.Spreading.{Gathers}
use Rattle.rules.proofs.closure.Relation.held_by.Given as goal

abbrev pub invariant-loop-m : goal.invariant-loop-m
invariant-loop-m g l = Gathers l.self.rows l.fn.set l.rest l.held

abbrev pub decreases-loop-m : goal.decreases-loop-m
decreases-loop-m g l = count l.rest 64
