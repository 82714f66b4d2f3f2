-- To put a number into a list right behind the last one that passes a test.
use mathlib.Core.Path.{◌≡◌, refl, sym, ◌∙◌, subst, ap}
use mathlib.Core.List.{List, [], ◌∷◌}
use mathlib.Core.Logic.{◌⊎◌, inl, inr}
use mathlib.Core.Bool.{Bool, true, false, cond, ◌||◌, true≢false}
use Prim.Native.Nat.{ℕ, suc}
use lib.ListN.{length}
use Rattle.locking.specs.Lists.{Mem, Before, Distinct}
use Rattle.locking.proofs.Lists.{by_test, before_head, before_tail, mem_not_head}

-- some number of the list passes the test
abbrev pub any : (ℕ → Bool) → List ℕ → Bool
any p [] = false
any p (x ∷ xs) = p x || any p xs

-- j, put into the list there
abbrev pub put : (ℕ → Bool) → ℕ → List ℕ → List ℕ
put p j [] = j ∷ []
put p j (x ∷ xs) = cond (any p (x ∷ xs)) (x ∷ put p j xs) (j ∷ x ∷ xs)

or_left : (a b : Bool) → a ≡ true → (a || b) ≡ true
or_left true b e = refl
or_left false b e = absurd (true≢false (sym e))

or_right : (a b : Bool) → b ≡ true → (a || b) ≡ true
or_right true b e = refl
or_right false b e = e

or_cases : (a b : Bool) → (a || b) ≡ true → (a ≡ true) ⊎ (b ≡ true)
or_cases true b e = inl refl
or_cases false b e = inr e

any_mem : (p : ℕ → Bool) (x : ℕ) (l : List ℕ) → Mem x l → p x ≡ true → any p l ≡ true
any_mem p x [] m e = absurd m
any_mem p x (y ∷ ys) (inl f) e = or_left (p y) (any p ys) (subst (λ (v : ℕ). p v ≡ true) f e)
any_mem p x (y ∷ ys) (inr m) e = or_right (p y) (any p ys) (any_mem p x ys m e)

any_witness : (p : ℕ → Bool) (l : List ℕ) → any p l ≡ true → (x : ℕ) × Mem x l × (p x ≡ true)
any_witness p [] e = absurd (true≢false (sym e))
any_witness p (y ∷ ys) e = go (or_cases (p y) (any p ys) e) (any_witness p ys)
  where
    go
        : (p y ≡ true) ⊎ (any p ys ≡ true) → (any p ys ≡ true → (x : ℕ) × Mem x ys × (p x ≡ true))
        → (x : ℕ) × Mem x (y ∷ ys) × (p x ≡ true)
    go (inl f) r = (y, inl refl, f)
    go (inr f) r = ((r f).0, inr (r f).1, (r f).2)

module _ (p : ℕ → Bool) (j : ℕ) where
  pub put_self : (l : List ℕ) → Mem j (put p j l)
  put_self [] = inl refl
  put_self (x ∷ xs) =
      elim (any p (x ∷ xs)) as (λ v. Mem j (cond v (x ∷ put p j xs) (j ∷ x ∷ xs))) [ true ↦ inr (put_self xs) | false ↦ inl refl ]

  pub put_old : (y : ℕ) (l : List ℕ) → Mem y l → Mem y (put p j l)
  put_old y [] m = absurd m
  put_old y (x ∷ xs) m =
      elim (any p (x ∷ xs)) as (λ v. Mem y (cond v (x ∷ put p j xs) (j ∷ x ∷ xs))) [
        | true ↦ elim m [ inl e ↦ inl e | inr n ↦ inr (put_old y xs n) ]
        | false ↦ inr m
      ]

  pub put_cases : (y : ℕ) (l : List ℕ) → Mem y (put p j l) → (y ≡ j) ⊎ Mem y l
  put_cases y [] = λ m. m
  put_cases y (x ∷ xs) =
      elim (any p (x ∷ xs)) as (λ v. Mem y (cond v (x ∷ put p j xs) (j ∷ x ∷ xs)) → (y ≡ j) ⊎ Mem y (x ∷ xs)) [
        | true ↦ (λ m. elim m [ inl e ↦ inr (inl e) | inr n ↦ elim (put_cases y xs n) [ inl e ↦ inl e | inr k ↦ inr (inr k) ] ])
        | false ↦ (λ m. m)
      ]

  pub put_distinct : (l : List ℕ) → ¬ Mem j l → Distinct l → Distinct (put p j l)
  put_distinct [] n d = (λ m. m, tt)
  put_distinct (x ∷ xs) n d =
      elim (any p (x ∷ xs)) as (λ v. Distinct (cond v (x ∷ put p j xs) (j ∷ x ∷ xs))) [
        | true ↦ (
          λ m. elim (put_cases x xs m) [ inl e ↦ n (inl (sym e)) | inr k ↦ d.0 k ],
          put_distinct xs (λ m. n (inr m)) d.1,
        )
        | false ↦ (n, d)
      ]

  -- what was in order stays so
  pub put_keeps : (x y : ℕ) (l : List ℕ) → Before x y l → Before x y (put p j l)
  put_keeps x y [] h = absurd h
  put_keeps x y (z ∷ zs) h =
      elim (any p (z ∷ zs)) as (λ v. Before x y (cond v (z ∷ put p j zs) (j ∷ z ∷ zs))) [
        | true ↦ elim h [ inl k ↦ inl (k.0, put_old y zs k.1) | inr k ↦ inr (put_keeps x y zs k) ]
        | false ↦ inr h
      ]

  -- whatever passes the test stands before
  pub put_behind : (x : ℕ) (l : List ℕ) → Mem x l → p x ≡ true → Before x j (put p j l)
  put_behind x [] m t = absurd m
  put_behind x (z ∷ zs) m t =
      by_test (λ v. Before x j (cond v (z ∷ put p j zs) (j ∷ z ∷ zs))) (any p (z ∷ zs))
      (λ e. elim m [ inl f ↦ inl (f, put_self zs) | inr k ↦ inr (put_behind x zs k t) ])
      (λ e. absurd (true≢false (sym (any_mem p x (z ∷ zs) m t) ∙ e)))

  -- what stands behind all that pass the test comes after
  pub put_ahead
      : (y : ℕ) (l : List ℕ) → Distinct l → Mem y l → ((z : ℕ) → Mem z l → p z ≡ true → Before z y l) → Before j y (put p j l)
  put_ahead y [] d m h = absurd m
  put_ahead y (z ∷ zs) d m h =
      by_test (λ v. Before j y (cond v (z ∷ put p j zs) (j ∷ z ∷ zs))) (any p (z ∷ zs))
      (λ t. elim m [ inl e ↦ absurd (at_head e t) | inr k ↦ inr (put_ahead y zs d.1 k inner) ]) (λ t. inl (refl, m))
    where
      at_head : y ≡ z → any p (z ∷ zs) ≡ true → ⊥
      at_head e t =
          let w = any_witness p (z ∷ zs) t in
          before_head w.0 z zs d.0 (subst (λ (v : ℕ). Before w.0 v (z ∷ zs)) e (h w.0 w.1 w.2))

      inner : (w : ℕ) → Mem w zs → p w ≡ true → Before w y zs
      inner w k t = before_tail w y z zs (mem_not_head w z zs d.0 k) (h w (inr k) t)

  pub put_length : (l : List ℕ) → length (put p j l) ≡ suc (length l)
  put_length [] = refl
  put_length (x ∷ xs) =
      elim (any p (x ∷ xs)) as (λ v. length (cond v (x ∷ put p j xs) (j ∷ x ∷ xs)) ≡ suc (suc (length xs))) [
        | true ↦ ap suc (put_length xs)
        | false ↦ refl
      ]
