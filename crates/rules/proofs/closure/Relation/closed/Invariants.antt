use Rattle.rules.proofs.Closing.{Closing}
use Rattle.rules.proofs.closure.Relation.closed.Given as goal

abbrev pub invariant-loop-k : goal.invariant-loop-k
invariant-loop-k g l = Closing l.self.rows l.closed.rows l.k
