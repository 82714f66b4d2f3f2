-- The places of a list whose elements pass a test.
use Rattle.std.proofs.Common.{◌≡◌, ℕ, ◌+◌, ◌<◌, Bool, true, false, ◌||◌, eqb, sym, refl, ap, ◌∙◌, subst, inl, inr, arith}
use Rattle.std.proofs.lemmas.Bool.{cases_eq, or_cases, or_right, eqb-true, eq-eqb, ne_eqb, false_from_ne_true}
use Rattle.itemset.specs.declared.ItemSet.{ItemSet}
use Rattle.itemset.specs.Members.{holds}

-- the set holds only numbers below i, and Q says of each of them whether the set holds it
pub record Tested (Q : ℕ → Bool → Type 0) (x : ItemSet) (i : ℕ) : Type 0 where
  pub within : (k : ℕ) → holds x k ≡ true → k < i
  pub tested : (k : ℕ) → k < i → Q k (holds x k)

pub tested_insert : (Q : ℕ → Bool → Type 0) (x y : ItemSet) (i : ℕ) → Tested Q x i → ((m : ℕ) → holds y m ≡ (holds x m || eqb m i)) → Q i true → Tested Q y (i + 1)
tested_insert Q x y i t e q = record { within = within; tested = tested }
  where
    within : (k : ℕ) → holds y k ≡ true → k < i + 1
    within k h = elim (or_cases (holds x k) (eqb k i) (sym (e k) ∙ h)) [
      | inl u ↦ omega (arith, t.within k u)
      | inr u ↦ omega (arith, eqb-true k i u)
    ]

    tested : (k : ℕ) → k < i + 1 → Q k (holds y k)
    tested k l = elim (cases_eq k i) [
      | inl s ↦ subst (λ (j : ℕ). Q j (holds y j)) (sym s) (subst (Q i) (sym (e i ∙ or_right (holds x i) (eqb i i) (eq-eqb i i refl))) q)
      | inr ne ↦ subst (Q k) (sym (e k ∙ ap (λ (b : Bool). holds x k || b) (ne_eqb k i ne) ∙ or_false (holds x k))) (t.tested k (omega arith))
    ]
      where
        or_false : (b : Bool) → (b || false) ≡ b
        or_false true = refl
        or_false false = refl

pub tested_skip : (Q : ℕ → Bool → Type 0) (x : ItemSet) (i : ℕ) → Tested Q x i → Q i false → Tested Q x (i + 1)
tested_skip Q x i t q = record { within = λ k h. omega (arith, t.within k h); tested = tested }
  where
    tested : (k : ℕ) → k < i + 1 → Q k (holds x k)
    tested k l = elim (cases_eq k i) [
      | inl s ↦ subst (λ (j : ℕ). Q j (holds x j)) (sym s) (subst (Q i) (sym (false_from_ne_true (holds x i) (λ h. let b = t.within i h in omega arith))) q)
      | inr ne ↦ t.tested k (omega arith)
    ]
