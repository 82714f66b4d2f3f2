-- The lowest number that fails a test, as `find` over a range or the rest of a set gives it.
use Rattle.std.proofs.Common.{◌≡◌, ℕ, ◌<◌, ◌≤◌, true, false, not, ◌&&◌, Option, Some, None, MatchOption, sym, ◌∙◌, inl, inr, arith}
use Rattle.std.proofs.lemmas.Bool.{and_from, and_parts, both_ways, cases_Bool, not-true, not_from_false}
use Rattle.itemset.specs.declared.ItemSet.{ItemSet}
use Rattle.itemset.specs.Members.{holds}
use Rattle.rules.specs.Sets.{Exactly}
use Rattle.rules.specs.Rules.{Lowest}

-- P is tested of the numbers below n, and n is at most m
pub lowest_found
    : (P : ℕ → Type 0) (n m : ℕ) → n ≤ m → (All : Type 0) (Breaks : ℕ → Type 0) → (((k : ℕ) → k < n → P k) → All) → ((i : ℕ) → Lowest P n i → Breaks i) → (r : Option ℕ)
    → MatchOption r ((k : ℕ) → 0 ≤ k → k < n → k < m → P k) (λ i. (0 ≤ i) × (i < n) × (i < m → P i → ⊥) × ((k : ℕ) → 0 ≤ k → k < i → k < m → P k)) → MatchOption r All Breaks
lowest_found P n m l All Breaks all breaks None h = all (λ k b. h k (omega arith) b (omega arith))
lowest_found P n m l All Breaks all breaks (Some i) h =
    breaks i (h.1, h.2 (omega (arith, h.1)), λ k b. h.3 k (omega arith) b (omega (arith, h.1)))

-- P is told by a set, and the rest is what the numbers below n have beside it
module _ (P : ℕ → Type 0) (n : ℕ) (all set rest : ItemSet) (below : Exactly all (λ e. e < n)) (are : Exactly set P) (left : (e : ℕ) → holds rest e ≡ (holds all e && not (holds set e))) where
  lacks : (e : ℕ) → holds rest e ≡ true → (e < n) × (P e → ⊥)
  lacks e h =
      let q = and_parts (holds all e) (not (holds set e)) (sym (left e) ∙ h) in
      ((below e).0 q.0, λ p. both_ways (holds set e) (not-true (holds set e) q.1) ((are e).1 p))

  meets : (e : ℕ) → e < n → holds rest e ≡ false → P e
  meets e l h = elim (cases_Bool (holds set e)) [
    | inl i ↦ (are e).0 i
    | inr f ↦ absurd (both_ways (holds rest e) h (left e ∙ and_from (holds all e) (not (holds set e)) ((below e).1 l) (not_from_false (holds set e) f)))
  ]

  pub none_lacks : ((e : ℕ) → holds rest e ≡ false) → (e : ℕ) → e < n → P e
  none_lacks h e l = meets e l (h e)

  pub lowest_lacks : (s : ℕ) → holds rest s ≡ true → ((e : ℕ) → e < s → holds rest e ≡ false) → Lowest P n s
  lowest_lacks s h low = let q = lacks s h in (q.0, q.1, λ e l. meets e (omega (arith, q.0)) (low e l))
