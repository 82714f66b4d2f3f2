use Rattle.rules.specs.Reach.{Converse, Joined}
use Rattle.rules.proofs.Spreading.{Spreads}
use Rattle.rules.proofs.closure.Relation.spread_on.Given as goal

abbrev pub invariant-loop : goal.invariant-loop
invariant-loop g l = Spreads (Converse (Joined l.along.rows)) l.initial.self.rows l.self.rows
