use Rattle.std.proofs.Common.{◌≡◌, ℕ, ◌-◌, min, ltb, sym, ap, ◌∙◌, arith}
use Rattle.std.proofs.lemmas.Nat.{one_shl}
use Rattle.itemset.specs.Members.{has}
use Rattle.itemset.proofs.Laws.{has_ones}
use Rattle.itemset.proofs.word.below.Goals as goal

pub returns-then-n-ge64 : goal.returns-then-n-ge64
returns-then-n-ge64 c =
    let m : min c.args.n 64 ≡ 64 = omega arith in
    λ e. has_ones 64 e ∙ ap (λ (x : ℕ). ltb e x) (sym m)

pub returns : goal.returns
returns c =
    let m : min c.args.n 64 ≡ c.args.n = omega arith in
    λ e. ap (λ (x : ℕ). has (x - 1) e) (one_shl c.args.n 64 (omega arith)) ∙ has_ones c.args.n e ∙ ap (λ (x : ℕ). ltb e x) (sym m)
