use Rattle.std.proofs.Common.{get_or}
use Rattle.itemset.specs.Members.{nothing}
use Rattle.rules.proofs.Rows.{Come}
use Rattle.rules.proofs.closure.Relation.each.Given as goal

abbrev pub invariant-loop-row : goal.invariant-loop-row
invariant-loop-row g l = Come (λ s r. goal.F-post g l.f (get_or l.initial.row-items s nothing) r) l.initial.row-items l.row-items l.row-index
