use Rattle.std.proofs.Common.{◌⊎◌, get_or}
use Rattle.itemset.specs.Members.{nothing}
use Rattle.rules.specs.Reach.{HeldBy, Joined}
use Rattle.rules.specs.Sets.{Exactly}
use Rattle.rules.proofs.Rows.{Come}
use Rattle.rules.proofs.closure.Relation.take_all.Given as goal

abbrev pub invariant-loop-s : goal.invariant-loop-s
invariant-loop-s g l = Come (λ s r. Exactly r (λ t. Joined l.first.rows s t ⊎ HeldBy l.first.rows (get_or l.along.rows s nothing) t)) l.initial.row-items l.row-items l.s
