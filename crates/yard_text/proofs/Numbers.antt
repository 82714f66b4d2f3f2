-- Numbers that a signed or a smaller type holds.
use Rattle.std.proofs.Common.{◌≡◌, ℕ, zero, suc, ◌<◌, ◌≤◌, List, ◌∷◌, sym, ◌∙◌, subst, arith, ℤ, pos, ◌+ℤ◌, ◌-ℤ◌, Option, Some, None, Result, Ok, Err, w32, FitsSigned}
use Rattle.std.proofs.lemmas.Int.{ints}
use Rattle.std.specs.Option.{SomeIff}
use Rattle.std.specs.Result.{OkIff, result_ok}
use Rattle.std.specs.Char.{digit_value}
use Rattle.std.specs.Str.Parse.{AllDigits}
use Rattle.yard_text.specs.Input.{Writes, Argument, negative}
use Rattle.yard_text.specs.Input.Argument.{plain, after_minus}
use Rattle.yard_text.specs.Reading.{NamesArgument}
use Rattle.yard_text.proofs.Bytes.{no_digit}

minus_is : (n : ℕ) → pos 0 -ℤ pos n ≡ negative n
minus_is n = omega (arith, ints)

plain_is : (n : ℕ) → pos 0 +ℤ pos n ≡ pos n
plain_is n = omega (arith, ints)

plain_fits : (n : ℕ) → n ≤ 2147483647 → FitsSigned w32 (pos n)
plain_fits n le = record { sfits = omega arith }

plain_bound : (n : ℕ) → FitsSigned w32 (pos n) → n ≤ 2147483647
plain_bound n f = omega (arith, f.sfits)

negative_fits : (n : ℕ) → n ≤ 2147483648 → FitsSigned w32 (negative n)
negative_fits zero le = record { sfits = omega arith }
negative_fits (suc n) le = record { sfits = omega arith }

negative_bound : (n : ℕ) → FitsSigned w32 (negative n) → n ≤ 2147483648
negative_bound zero f = omega arith
negative_bound (suc n) f = omega (arith, f.sfits)

-- a word writes one number
one_number : (word : List ℕ) (m n : ℕ) → Writes word m → Writes word n → m ≡ n
one_number word m n v w = sym v.number ∙ w.number

-- digits after a minus are an argument exactly where their negative fits
pub after_minus_named
    : (word digits : List ℕ) (n : ℕ) (r : Option ℤ) → word ≡ 45 ∷ digits → Writes digits n
    → SomeIff r (FitsSigned w32 (pos 0 -ℤ pos n)) (pos 0 -ℤ pos n) → NamesArgument word r
after_minus_named word digits n (Some x) e w h =
    after_minus digits n e w (negative_bound n (subst (FitsSigned w32) (minus_is n) h.0)) (h.1 ∙ minus_is n)
after_minus_named word digits n None e w h = λ a arg. none a arg
  where
    none : (a : ℤ) → Argument word a → ⊥
    none a (plain m x le f) = no_digit (digit_value 45) (subst (AllDigits 10) e x.numeral.1).0 (omega arith)
    none a (after_minus ds m f x le g) =
        let same : ds ≡ digits = cc in
        let number = one_number digits m n (subst (λ l. Writes l m) same x) w in
        h (subst (FitsSigned w32) (sym (minus_is n)) (negative_fits n (omega (arith, number, le))))

-- digits with no minus are an argument exactly where their number fits
pub plain_named
    : (word : List ℕ) (n : ℕ) (r : Option ℤ) → ((digits : List ℕ) → ¬ (word ≡ 45 ∷ digits)) → Writes word n
    → SomeIff r (FitsSigned w32 (pos 0 +ℤ pos n)) (pos 0 +ℤ pos n) → NamesArgument word r
plain_named word n (Some x) bare w h = plain n w (plain_bound n (subst (FitsSigned w32) (plain_is n) h.0)) (h.1 ∙ plain_is n)
plain_named word n None bare w h = λ a arg. none a arg
  where
    none : (a : ℤ) → Argument word a → ⊥
    none a (plain m x le f) = h (subst (FitsSigned w32) (sym (plain_is n)) (plain_fits n (omega (arith, one_number word m n x w, le))))
    none a (after_minus ds m f x le g) = bare ds f

-- of what a byte holds, and what it does not
pub small : {E : Type 0} (q : Result ℕ E) (n x : ℕ) → OkIff q (n < 256) n → Some x ≡ result_ok q → (n ≡ x) × (x ≤ 255)
small (Ok y) n x h e = let same : x ≡ y = cc in (sym h.1 ∙ sym same, omega (arith, h.0, h.1, same))
small (Err d) n x h e = absurd (cc)

pub not_small : {E : Type 0} (word : List ℕ) (q : Result ℕ E) (n : ℕ) → Writes word n → OkIff q (n < 256) n → None ≡ result_ok q → (m : ℕ) → Writes word m → ¬ (m ≤ 255)
not_small word (Ok y) n w h e m v le = absurd (cc)
not_small word (Err d) n w h e m v le = h (omega (arith, one_number word m n v w, le))
