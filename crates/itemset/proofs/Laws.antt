-- What each operation on binary digits does to the set that they hold.
use Rattle.std.proofs.Common.{◌≡◌, ℕ, zero, suc, ◌-◌, ◌*◌, ◌/◌, ◌%◌, ◌^◌, ◌<◌, ◌≤◌, min, max, Bool, true, false, not, ◌&&◌, ◌||◌, eqb, ltb, sym, refl, ap, ◌∙◌, inl, inr, arith, w64}
use Rattle.std.specs.Int.RustNames.{bit_or}
use lib.Bits.{bit_and}
use Rattle.std.specs.Int.{bit_at, bit_not, trailing_zeros}
use Rattle.std.proofs.lemmas.Nat.{one_shl}
use Rattle.std.proofs.lemmas.Nat.Bits.{bit_at-zero, bit_at_and, bit_at_or, bit_at_not, bit_at-pow_same, bit_at-pow_other, bit_at_ones, bit_at_ones_above, bit_at_above, bit_at-lt, bit_at-trailing_zeros, shr_and_one}
use Rattle.std.proofs.lemmas.Bool.{and_left, cases_eq, cases_lt, eq-eqb, le-ltb, lt-ltb, ne_eqb}
use Rattle.itemset.specs.Members.{has}

-- a digit is 0 or 1
digit : (P : ℕ → Type 0) → P 0 → P 1 → (u : ℕ) → u < 2 → P u
digit P a b zero h = a
digit P a b (suc zero) h = b
digit P a b (suc (suc u)) h = absurd (omega arith)

digits : (P : ℕ → ℕ → Type 0) → P 0 0 → P 0 1 → P 1 0 → P 1 1 → (u v : ℕ) → u < 2 → v < 2 → P u v
digits P a b c d u v hu hv =
    digit (λ x. P x v) (digit (λ y. P 0 y) a b v hv) (digit (λ y. P 1 y) c d v hv) u hu

-- the set holds d where the digit is 1
pub has_at : (n d : ℕ) (b : ℕ) → bit_at n d ≡ b → has n d ≡ eqb b 1
unfolding has
has_at n d b e = ap (λ (x : ℕ). eqb x 1) e

pub has_none : (d : ℕ) → has 0 d ≡ false
has_none d = has_at 0 d 0 (bit_at-zero d)

-- a number below 2 ^ k holds only numbers below k
pub has_below : (n k d : ℕ) → n < 2 ^ k → k ≤ d → has n d ≡ false
has_below n k d h l = has_at n d 0 (bit_at_above n k d h l)

-- as the code reads a digit
pub has_read : (n d : ℕ) → eqb (bit_and (n / 2 ^ d) 1) 1 ≡ has n d
unfolding has
has_read n d = ap (λ (x : ℕ). eqb x 1) (shr_and_one n d)

pub has_or : (a b d : ℕ) → has (bit_or a b) d ≡ (has a d || has b d)
unfolding has
has_or a b d =
    has_at (bit_or a b) d (max (bit_at a d) (bit_at b d)) (bit_at_or a b d)
    ∙ digits (λ u v. eqb (max u v) 1 ≡ (eqb u 1 || eqb v 1)) refl refl refl refl (bit_at a d) (bit_at b d) (bit_at-lt a d) (bit_at-lt b d)

pub has_and : (a b d : ℕ) → has (bit_and a b) d ≡ (has a d && has b d)
unfolding has
has_and a b d =
    has_at (bit_and a b) d (min (bit_at a d) (bit_at b d)) (bit_at_and a b d)
    ∙ digits (λ u v. eqb (min u v) 1 ≡ (eqb u 1 && eqb v 1)) refl refl refl refl (bit_at a d) (bit_at b d) (bit_at-lt a d) (bit_at-lt b d)

has_not : (n d : ℕ) → n < 2 ^ 64 → d < 64 → has (bit_not w64 n) d ≡ not (has n d)
unfolding has
has_not n d h l =
    has_at (bit_not w64 n) d (1 - bit_at n d) (bit_at_not w64 n d h l)
    ∙ digit (λ u. eqb (1 - u) 1 ≡ not (eqb u 1)) refl refl (bit_at n d) (bit_at-lt n d)

-- what is in the first and not in the second
pub has_without : (a b : ℕ) → a < 2 ^ 64 → b < 2 ^ 64 → (d : ℕ) → has (bit_and a (bit_not w64 b)) d ≡ (has a d && not (has b d))
has_without a b ha hb d = elim (cases_lt d 64) [
  | inl l ↦ has_and a (bit_not w64 b) d ∙ ap (λ x. has a d && x) (has_not b d hb l)
  | inr l ↦ (let none = has_below a 64 d ha l in
      has_and a (bit_not w64 b) d ∙ and_left (has a d) (has (bit_not w64 b) d) none ∙ sym (and_left (has a d) (not (has b d)) none))
]

-- the set of one number
has_one : (k d : ℕ) → k < 64 → has (1 * 2 ^ k % 2 ^ 64) d ≡ eqb d k
has_one k d l = ap (λ (x : ℕ). has x d) (one_shl k 64 l) ∙ elim (cases_eq d k) [
  | inl e ↦ has_at (2 ^ k) d 1 (ap (bit_at (2 ^ k)) e ∙ bit_at-pow_same k) ∙ sym (eq-eqb d k e)
  | inr ne ↦ has_at (2 ^ k) d 0 (bit_at-pow_other k d ne) ∙ sym (ne_eqb d k ne)
]

pub has_inserted : (n d : ℕ) → d < 64 → (e : ℕ) → has (bit_or n (1 * 2 ^ d % 2 ^ 64)) e ≡ (has n e || eqb e d)
has_inserted n d h e = has_or n (1 * 2 ^ d % 2 ^ 64) e ∙ ap (λ x. has n e || x) (has_one d e h)

pub has_removed : (n d : ℕ) → n < 2 ^ 64 → d < 64 → (e : ℕ) → has (bit_and n (bit_not w64 (1 * 2 ^ d % 2 ^ 64))) e ≡ (has n e && not (eqb e d))
has_removed n d h l e = has_without n (1 * 2 ^ d % 2 ^ 64) h (omega arith) e ∙ ap (λ x. has n e && not x) (has_one d e l)

-- no set holds a number of 64 or more to take out
pub has_unremoved : (n d : ℕ) → n < 2 ^ 64 → 64 ≤ d → (e : ℕ) → has n e ≡ (has n e && not (eqb e d))
has_unremoved n d h l e = elim (cases_eq e d) [
  | inl s ↦ (let f : has n e ≡ false = has_below n 64 e h (omega arith) in f ∙ sym (and_left (has n e) (not (eqb e d)) f))
  | inr s ↦ sym (ap (λ (x : Bool). has n e && not x) (ne_eqb e d s) ∙ and_true (has n e))
]
  where
    and_true : (b : Bool) → (b && true) ≡ b
    and_true true = refl
    and_true false = refl

-- the numbers below n
pub has_ones : (n d : ℕ) → has (2 ^ n - 1) d ≡ ltb d n
has_ones n d = elim (cases_lt d n) [
  | inl l ↦ has_at (2 ^ n - 1) d 1 (bit_at_ones n d l) ∙ sym (lt-ltb d n l)
  | inr l ↦ has_at (2 ^ n - 1) d 0 (bit_at_ones_above n d l) ∙ sym (le-ltb d n l)
]

-- the lowest set digit is the lowest member
pub record Lowest (n d : ℕ) : Type 0 where
  pub member : has n d ≡ true
  pub least : (e : ℕ) → e < d → has n e ≡ false
  pub below : d < 64

pub lowest_trailing : (n : ℕ) → 0 < n → n < 2 ^ 64 → Lowest n (trailing_zeros w64 n)
lowest_trailing n p h =
    let t = bit_at-trailing_zeros w64 n p h in
    record { member = has_at n (trailing_zeros w64 n) 1 t.1; least = λ e l. has_at n e 0 (t.2 e l); below = t.0 }
