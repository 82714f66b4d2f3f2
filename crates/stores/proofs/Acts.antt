-- What an act at item i makes of a list: cut short, joined, and by `set`.
use Rattle.std.proofs.Common.{◌≡◌, ℕ, zero, suc, ◌-◌, ◌<◌, ◌≤◌, List, [], ◌∷◌, ◌++◌, length, take, drop, set, ℤ, Option, Some, None, sym, refl, ap, ◌∙◌, arith}
use Rattle.std.specs.Borrow.{Bor}
use Rattle.std.specs.Option.{option_copied, option_map}
use Rattle.std.specs.Slice.{IsItemAt}
use Rattle.std.specs.List.{slice_get}
use Rattle.std.proofs.lemmas.Option.{same_Some, slice_get_read, slice_get_past}
use Rattle.stores.specs.Stores.{register_after, values_after}

pub nth_take : {V : Type 0} (n : ℕ) (xs : List V) (i : ℕ) → i < n → slice_get (take n xs) i ≡ slice_get xs i
nth_take zero xs i h = absurd (let z : ⊥ = omega arith in z)
nth_take (suc n) [] i h = refl
nth_take (suc n) (x ∷ xs) zero h = refl
nth_take (suc n) (x ∷ xs) (suc i) h = nth_take n xs i (omega arith)

pub nth_left : {V : Type 0} (xs ys : List V) (i : ℕ) → i < length xs → slice_get (xs ++ ys) i ≡ slice_get xs i
nth_left [] ys i h = absurd (let z : ⊥ = omega arith in z)
nth_left (x ∷ xs) ys zero h = refl
nth_left (x ∷ xs) ys (suc i) h = nth_left xs ys i (omega arith)

pub nth_right : {V : Type 0} (xs ys : List V) (i : ℕ) → length xs ≤ i → slice_get (xs ++ ys) i ≡ slice_get ys (i - length xs)
nth_right [] ys i h = ap (slice_get ys) (omega arith)
nth_right (x ∷ xs) ys zero h = absurd (let z : ⊥ = omega arith in z)
nth_right (x ∷ xs) ys (suc i) h = nth_right xs ys i (omega arith) ∙ ap (slice_get ys) (omega arith)

-- what `get` lends at i is item i of the list, or nothing where there is none
pub lent : {V : Type 0} (xs : List V) (i : ℕ) (r : Option (Bor V)) → IsItemAt xs i r → option_copied r ≡ slice_get xs i
lent xs i None there = sym (slice_get_past xs i there.3)
lent xs i (Some v) there = sym (slice_get_read xs (length xs) i v.now refl there.3.0 there.1)

module _ {V : Type 0} (act : V → ℕ → ℤ → ℤ → V × ℤ) (code : ℕ) (operand register : ℤ) where
  abbrev after : List V → ℕ → List V
  after xs i = values_after act xs i code operand register

  -- where item i is v
  pub register_at : (xs : List V) (i : ℕ) (v : V) → Some v ≡ slice_get xs i → Some (act v code operand register).1 ≡ register_after act xs i code operand register
  register_at xs i v e = ap (option_map (λ w. (act w code operand register).1)) e

  pub after_at : (xs : List V) (i : ℕ) (v : V) → Some v ≡ slice_get xs i → set xs i (act v code operand register).0 ≡ after xs i
  after_at [] i v e = refl
  after_at (x ∷ xs) zero v e = ap (λ w. (act w code operand register).0 ∷ xs) (same_Some v x e)
  after_at (x ∷ xs) (suc i) v e = ap (λ ys. x ∷ ys) (after_at xs i v e)

  -- where there is no item i
  pub after_none : (xs : List V) (i : ℕ) → None ≡ slice_get xs i → xs ≡ after xs i
  after_none [] i e = refl
  after_none (x ∷ xs) zero e = (cc)
  after_none (x ∷ xs) (suc i) e = ap (λ ys. x ∷ ys) (after_none xs i e)

  pub after_length : (xs : List V) (i : ℕ) → length (after xs i) ≡ length xs
  after_length [] i = refl
  after_length (x ∷ xs) zero = refl
  after_length (x ∷ xs) (suc i) = ap suc (after_length xs i)

  -- of the first n items the act is done there
  pub after_take : (n : ℕ) (xs : List V) (i : ℕ) → i < n → take n (after xs i) ≡ after (take n xs) i
  after_take zero xs i h = absurd (let z : ⊥ = omega arith in z)
  after_take (suc n) [] i h = refl
  after_take (suc n) (x ∷ xs) zero h = refl
  after_take (suc n) (x ∷ xs) (suc i) h = ap (λ ys. x ∷ ys) (after_take n xs i (omega arith))

  -- and what comes after them stays
  pub after_drop : (n : ℕ) (xs : List V) (i : ℕ) → i < n → drop n (after xs i) ≡ drop n xs
  after_drop zero xs i h = absurd (let z : ⊥ = omega arith in z)
  after_drop (suc n) [] i h = refl
  after_drop (suc n) (x ∷ xs) zero h = refl
  after_drop (suc n) (x ∷ xs) (suc i) h = after_drop n xs i (omega arith)

  -- of two lists that are joined the act is done in one
  pub after_left : (xs ys : List V) (i : ℕ) → i < length xs → after (xs ++ ys) i ≡ after xs i ++ ys
  after_left [] ys i h = absurd (let z : ⊥ = omega arith in z)
  after_left (x ∷ xs) ys zero h = refl
  after_left (x ∷ xs) ys (suc i) h = ap (λ zs. x ∷ zs) (after_left xs ys i (omega arith))

  pub after_right : (xs ys : List V) (i : ℕ) → length xs ≤ i → after (xs ++ ys) i ≡ xs ++ after ys (i - length xs)
  after_right [] ys i h = ap (after ys) (omega arith)
  after_right (x ∷ xs) ys zero h = absurd (let z : ⊥ = omega arith in z)
  after_right (x ∷ xs) ys (suc i) h =
      ap (λ zs. x ∷ zs) (after_right xs ys i (omega arith) ∙ ap (λ k. xs ++ after ys k) (omega arith))
