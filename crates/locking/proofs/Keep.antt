-- Facts of what a test keeps of a list.
use mathlib.Core.Path.{◌≡◌, refl, sym, ◌∙◌, subst, ap}
use mathlib.Core.List.{List, [], ◌∷◌, ◌++◌}
use mathlib.Core.Logic.{◌⊎◌, inl, inr}
use mathlib.Core.Bool.{Bool, true, false, cond}
use Rattle.locking.specs.Lists.{Mem, Before}
use Rattle.locking.specs.Serial.{keep}
use Rattle.locking.proofs.Lists.{by_test}

module _ {A : Type 0} where
  pub append_left : (x : A) (a b : List A) → Mem x a → Mem x (a ++ b)
  append_left x [] b m = absurd m
  append_left x (y ∷ ys) b (inl e) = inl e
  append_left x (y ∷ ys) b (inr m) = inr (append_left x ys b m)

  pub append_right : (x : A) (a b : List A) → Mem x b → Mem x (a ++ b)
  append_right x [] b m = m
  append_right x (y ∷ ys) b m = inr (append_right x ys b m)

  pub append_cases : (x : A) (a b : List A) → Mem x (a ++ b) → Mem x a ⊎ Mem x b
  append_cases x [] b m = inr m
  append_cases x (y ∷ ys) b (inl e) = inl (inl e)
  append_cases x (y ∷ ys) b (inr m) = elim (append_cases x ys b m) [ inl k ↦ inl (inr k) | inr k ↦ inr k ]

  pub keep_yes : (p : A → Bool) (x : A) (xs : List A) → p x ≡ true → keep p (x ∷ xs) ≡ x ∷ keep p xs
  keep_yes p x xs e = rw e

  pub keep_not : (p : A → Bool) (x : A) (xs : List A) → p x ≡ false → keep p (x ∷ xs) ≡ keep p xs
  keep_not p x xs e = rw e

  pub keep_append : (p : A → Bool) (a b : List A) → keep p (a ++ b) ≡ keep p a ++ keep p b
  keep_append p [] b = refl
  keep_append p (x ∷ xs) b =
      by_test (λ v. cond v (x ∷ keep p (xs ++ b)) (keep p (xs ++ b)) ≡ cond v (x ∷ keep p xs) (keep p xs) ++ keep p b) (p x)
      (λ e. ap (λ (l : List A). x ∷ l) (keep_append p xs b)) (λ e. keep_append p xs b)

  -- two tests may be made in either order
  pub keep_swap : (p q : A → Bool) (l : List A) → keep p (keep q l) ≡ keep q (keep p l)
  keep_swap p q [] = refl
  keep_swap p q (x ∷ xs) = go (p x) (q x) refl refl (keep_swap p q xs)
    where
      go
          : (a b : Bool) → p x ≡ a → q x ≡ b → keep p (keep q xs) ≡ keep q (keep p xs)
          → keep p (keep q (x ∷ xs)) ≡ keep q (keep p (x ∷ xs))
      go true true e f r = cc
      go true false e f r = cc
      go false true e f r = cc
      go false false e f r = cc

  pub keep_mem : (p : A → Bool) (x : A) (l : List A) → Mem x (keep p l) → Mem x l × (p x ≡ true)
  keep_mem p x [] m = absurd m
  keep_mem p x (y ∷ ys) m =
      by_test (λ v. Mem x (cond v (y ∷ keep p ys) (keep p ys)) → Mem x (y ∷ ys) × (p x ≡ true)) (p y)
      (λ e n. elim n [ inl f ↦ (inl f, ap p f ∙ e) | inr k ↦ (let r = keep_mem p x ys k in (inr r.0, r.1)) ])
      (λ e n. let r = keep_mem p x ys n in (inr r.0, r.1)) m

  pub mem_keep : (p : A → Bool) (x : A) (l : List A) → Mem x l → p x ≡ true → Mem x (keep p l)
  mem_keep p x [] m t = absurd m
  mem_keep p x (y ∷ ys) (inl e) t =
      subst (λ (l : List A). Mem x l) (sym (keep_yes p y ys (sym (ap p e) ∙ t))) (inl e)
  mem_keep p x (y ∷ ys) (inr m) t =
      elim (p y) as (λ v. Mem x (cond v (y ∷ keep p ys) (keep p ys))) [
        | true ↦ inr (mem_keep p x ys m t)
        | false ↦ mem_keep p x ys m t
      ]

  pub keep_before : (p : A → Bool) (x y : A) (l : List A) → Before x y (keep p l) → Before x y l
  keep_before p x y [] h = absurd h
  keep_before p x y (z ∷ zs) h =
      by_test (λ v. Before x y (cond v (z ∷ keep p zs) (keep p zs)) → Before x y (z ∷ zs)) (p z)
      (λ e g. elim g [ inl f ↦ inl (f.0, (keep_mem p y zs f.1).0) | inr k ↦ inr (keep_before p x y zs k) ])
      (λ e g. inr (keep_before p x y zs g)) h

  -- nothing passes
  pub keep_none : (p : A → Bool) (l : List A) → ((x : A) → Mem x l → p x ≡ false) → keep p l ≡ []
  keep_none p [] h = refl
  keep_none p (x ∷ xs) h = keep_not p x xs (h x (inl refl)) ∙ keep_none p xs (λ y m. h y (inr m))
