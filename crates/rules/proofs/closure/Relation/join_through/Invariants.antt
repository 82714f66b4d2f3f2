use Rattle.std.proofs.Common.{◌≡◌, ℕ, ◌&&◌, ◌||◌, get_or}
use Rattle.itemset.specs.Members.{holds, nothing}
use Rattle.rules.proofs.Rows.{Come}
use Rattle.rules.proofs.closure.Relation.join_through.Given as goal

abbrev pub invariant-loop-row : goal.invariant-loop-row
invariant-loop-row g l =
    Come (λ s r. (t : ℕ) → holds r t ≡ (holds (get_or l.initial.row-items s nothing) t || (holds (get_or l.initial.row-items s nothing) l.k && holds (get_or l.initial.row-items l.k nothing) t))) l.initial.row-items l.row-items l.row-index
