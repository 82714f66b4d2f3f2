use Rattle.std.proofs.Common.{◌⊎◌}
use Rattle.rules.specs.Reach.{Joined}
use Rattle.rules.specs.Sets.{Exactly}
use Rattle.rules.proofs.Rows.{Come}
use Rattle.rules.proofs.closure.Relation.unite.Given as goal

abbrev pub invariant-loop-s : goal.invariant-loop-s
invariant-loop-s g l = Come (λ s r. Exactly r (λ t. Joined l.initial.row-items s t ⊎ Joined l.other.rows s t)) l.initial.row-items l.row-items l.s
