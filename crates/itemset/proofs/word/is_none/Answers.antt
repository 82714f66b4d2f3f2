use Rattle.std.proofs.Common.{ℕ, ◌^◌, ◌<◌, ap, ◌∙◌, inl, inr, arith}
use Rattle.std.proofs.lemmas.Bool.{both_ways, cases_eq, eqb-true, eq-eqb}
use Rattle.itemset.specs.Members.{has}
use Rattle.itemset.proofs.Laws.{has_none, lowest_trailing}
use Rattle.itemset.proofs.word.is_none.Goals as goal

pub returns : goal.returns
returns c =
    let n = c.args.word in
    let h : n < 2 ^ 64 = omega arith in (
      λ e k. ap (λ (x : ℕ). has x k) (eqb-true n 0 e) ∙ has_none k,
      λ f. elim (cases_eq n 0) [
        | inl z ↦ eq-eqb n 0 z
        | inr z ↦ absurd (let l = lowest_trailing n (omega arith) h in both_ways _ (f _) l.member)
      ],
    )
