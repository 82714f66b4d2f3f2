use Rattle.rules.specs.Reach.{Joined}
use Rattle.rules.proofs.Spreading.{Spreads}
use Rattle.rules.proofs.closure.Relation.spread.Given as goal

abbrev pub invariant-loop : goal.invariant-loop
invariant-loop g l = Spreads (Joined l.along.rows) l.initial.self.rows l.self.rows
