-- The numbers below n, those with the greatest key first.
use mathlib.Core.Path.{◌≡◌, refl, sym, ◌∙◌, subst, ap}
use mathlib.Core.List.{List, [], ◌∷◌}
use mathlib.Core.Logic.{◌⊎◌, inl, inr}
use mathlib.Core.Bool.{true, false, cond}
use Prim.Native.Nat.{ℕ, zero, suc, ◌≤◌, ◌<◌}
use native.Mathlib.Omega.{arith}
use native.Mathlib.Decide.{ℕ_discrete}
use lib.Dec.{leb}
use lib.ListN.{length}
use Rattle.locking.specs.Lists.{Mem, Distinct}
use Rattle.locking.proofs.Lists.{by_test}

-- the keys never rise along the list
abbrev pub Descending : (ℕ → ℕ) → List ℕ → Type 0
Descending key [] = Unit {0}
Descending key (x ∷ xs) = ((y : ℕ) → Mem y xs → key y ≤ key x) × Descending key xs

module _ (key : ℕ → ℕ) where
  -- j, put in before the first number whose key is not greater
  abbrev pub sink : ℕ → List ℕ → List ℕ
  sink j [] = j ∷ []
  sink j (x ∷ xs) = cond (leb (key x) (key j)) (j ∷ x ∷ xs) (x ∷ sink j xs)

  pub sink_self : (j : ℕ) (l : List ℕ) → Mem j (sink j l)
  sink_self j [] = inl refl
  sink_self j (x ∷ xs) =
      elim (leb (key x) (key j)) as (λ v. Mem j (cond v (j ∷ x ∷ xs) (x ∷ sink j xs))) [
        | true ↦ inl refl
        | false ↦ inr (sink_self j xs)
      ]

  pub sink_old : (j y : ℕ) (l : List ℕ) → Mem y l → Mem y (sink j l)
  sink_old j y [] m = absurd m
  sink_old j y (x ∷ xs) m =
      elim (leb (key x) (key j)) as (λ v. Mem y (cond v (j ∷ x ∷ xs) (x ∷ sink j xs))) [
        | true ↦ inr m
        | false ↦ elim m [ inl e ↦ inl e | inr n ↦ inr (sink_old j y xs n) ]
      ]

  pub sink_cases : (j y : ℕ) (l : List ℕ) → Mem y (sink j l) → (y ≡ j) ⊎ Mem y l
  sink_cases j y [] = λ m. m
  sink_cases j y (x ∷ xs) =
      elim (leb (key x) (key j)) as (λ v. Mem y (cond v (j ∷ x ∷ xs) (x ∷ sink j xs)) → (y ≡ j) ⊎ Mem y (x ∷ xs)) [
        | true ↦ (λ m. m)
        | false ↦ (λ m. elim m [
          | inl e ↦ inr (inl e)
          | inr n ↦ elim (sink_cases j y xs n) [ inl e ↦ inl e | inr k ↦ inr (inr k) ]
        ])
      ]

  pub sink_distinct : (j : ℕ) (l : List ℕ) → ¬ Mem j l → Distinct l → Distinct (sink j l)
  sink_distinct j [] n d = (λ m. m, tt)
  sink_distinct j (x ∷ xs) n d =
      elim (leb (key x) (key j)) as (λ v. Distinct (cond v (j ∷ x ∷ xs) (x ∷ sink j xs))) [
        | true ↦ (n, d)
        | false ↦ (
          λ m. elim (sink_cases j x xs m) [ inl e ↦ n (inl (sym e)) | inr k ↦ d.0 k ],
          sink_distinct j xs (λ m. n (inr m)) d.1,
        )
      ]

  sink_descending : (j : ℕ) (l : List ℕ) → Descending key l → Descending key (sink j l)
  sink_descending j [] d = (λ y m. absurd m, tt)
  sink_descending j (x ∷ xs) d =
      by_test (λ v. Descending key (cond v (j ∷ x ∷ xs) (x ∷ sink j xs))) (leb (key x) (key j))
      (λ e. (λ y m. front y (grind arith) m, d))
      (λ e. (λ y m. back y (grind arith) (sink_cases j y xs m), sink_descending j xs d.1))
    where
      front : (y : ℕ) → key x ≤ key j → Mem y (x ∷ xs) → key y ≤ key j
      front y h (inl e) = subst (λ (v : ℕ). key v ≤ key j) (sym e) h
      front y h (inr m) = omega (arith, d.0 y m)

      back : (y : ℕ) → key j < key x → (y ≡ j) ⊎ Mem y xs → key y ≤ key x
      back y h (inl e) = subst (λ (v : ℕ). key v ≤ key x) (sym e) (omega arith)
      back y h (inr m) = d.0 y m

  abbrev pub sorted : ℕ → List ℕ
  sorted zero = []
  sorted (suc n) = sink n (sorted n)

  pub sorted_only : (n y : ℕ) → Mem y (sorted n) → y < n
  sorted_only zero y m = absurd m
  sorted_only (suc n) y m =
      elim (sink_cases n y (sorted n) m) [ inl e ↦ omega arith | inr k ↦ omega (arith, sorted_only n y k) ]

  pub sorted_whole : (n y : ℕ) → y < n → Mem y (sorted n)
  sorted_whole zero y h = absurd (omega arith)
  sorted_whole (suc n) y h =
      elim (ℕ_discrete y n) [
        | yes e ↦ subst (λ (v : ℕ). Mem v (sink n (sorted n))) (sym e) (sink_self n (sorted n))
        | no f ↦ sink_old n y (sorted n) (sorted_whole n y (omega arith))
      ]

  pub sorted_distinct : (n : ℕ) → Distinct (sorted n)
  sorted_distinct zero = tt
  sorted_distinct (suc n) =
      sink_distinct n (sorted n) (λ m. absurd (let h : n < n = sorted_only n n m in omega arith)) (sorted_distinct n)

  pub sorted_descending : (n : ℕ) → Descending key (sorted n)
  sorted_descending zero = tt
  sorted_descending (suc n) = sink_descending n (sorted n) (sorted_descending n)

  sink_length : (j : ℕ) (l : List ℕ) → length (sink j l) ≡ suc (length l)
  sink_length j [] = refl
  sink_length j (x ∷ xs) =
      elim (leb (key x) (key j)) as (λ v. length (cond v (j ∷ x ∷ xs) (x ∷ sink j xs)) ≡ suc (suc (length xs))) [
        | true ↦ refl
        | false ↦ ap suc (sink_length j xs)
      ]

  pub sorted_length : (n : ℕ) → length (sorted n) ≡ n
  sorted_length zero = refl
  sorted_length (suc n) = sink_length n (sorted n) ∙ ap suc (sorted_length n)
