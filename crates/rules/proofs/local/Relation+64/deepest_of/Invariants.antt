use Rattle.std.proofs.Common.{ℕ, ◌<◌}
use Rattle.rules.specs.Sets.{Deepest}
use Rattle.rules.proofs.local.Relation+64.deepest_of.Given as goal

abbrev pub invariant-loop-a : goal.invariant-loop-a
invariant-loop-a l = (a : ℕ) → a < l.a → Deepest l.self.rows l.set a → ⊥
