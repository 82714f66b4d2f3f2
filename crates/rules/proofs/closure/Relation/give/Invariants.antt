use Rattle.itemset.proofs.Counting.{count}
use Rattle.rules.proofs.Pushing.{Giving}
use Rattle.rules.proofs.closure.Relation.give.Given as goal

abbrev pub invariant-loop-m : goal.invariant-loop-m
invariant-loop-m g l = Giving l.initial.self.rows l.self.rows l.fn.numbers l.rest l.fn.set l.news

abbrev pub decreases-loop-m : goal.decreases-loop-m
decreases-loop-m g l = count l.rest 64
