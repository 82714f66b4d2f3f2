-- Where a byte first stands, and digits from the front on.
use Rattle.std.proofs.Common.{◌≡◌, ℕ, zero, suc, ◌+◌, ◌*◌, ◌-◌, ◌<◌, ◌≤◌, List, [], ◌∷◌, ◌++◌, length, get_or, take, drop, sym, ap, ◌∙◌, subst, arith, length-drop, take_all, take-append-drop}
use Rattle.std.proofs.lemmas.List.{drop_more}
use Rattle.std.specs.Char.{digit_value}
use Rattle.std.specs.List.{AllWithin, HoldsAt}
use Rattle.std.specs.Str.Parse.{AllDigits, digits_value, digits_value_after}
use Rattle.yard_text.specs.Input.{Writes}
use Rattle.yard_text.specs.Reading.{Lacks, Cut}

-- a front that the byte does not stand in lacks it
pub lacks_front : (b : ℕ) (bs : List ℕ) (i : ℕ) → i ≤ length bs → AllWithin (λ x. ¬ (x ≡ b)) bs 0 i → Lacks b (take i bs)
lacks_front b bs zero le h = tt
lacks_front b [] (suc i) le h = absurd (omega arith)
lacks_front b (x ∷ xs) (suc i) le h = (h 0 0 (omega arith) (omega arith), lacks_front b xs i (omega arith) (λ k d l m. h (suc k) d (omega arith) (omega arith)))

pub lacks_all : (b : ℕ) (bs : List ℕ) → AllWithin (λ x. ¬ (x ≡ b)) bs 0 (length bs) → Lacks b bs
lacks_all b bs h = subst (Lacks b) (take_all (length bs) bs (omega arith)) (lacks_front b bs (length bs) (omega arith) h)

-- the bytes from n on, as a range of a slice has them
pub from_on : (n : ℕ) (xs : List ℕ) → take (length xs - n) (drop n xs) ≡ drop n xs
from_on n xs = take_all (length xs - n) (drop n xs) (omega (arith, length-drop n xs))

-- a byte cuts the list where it first stands
pub cut_at
    : (b : ℕ) (bs : List ℕ) (i : ℕ) → i < length bs → HoldsAt (λ x. x ≡ b) bs i → AllWithin (λ x. ¬ (x ≡ b)) bs 0 i
    → Cut b bs (take i bs) (take (length bs - (i + 1)) (drop (i + 1) bs))
cut_at b bs i lt e h =
    let next : drop i bs ≡ b ∷ take (length bs - (i + 1)) (drop (i + 1) bs) =
    drop_more bs i 0 lt ∙ ap (λ x. x ∷ drop (i + 1) bs) (e 0) ∙ ap (λ l. b ∷ l) (sym (from_on (i + 1) bs)) in
    record {
      bytes = sym (take-append-drop i bs) ∙ ap (λ l. take i bs ++ l) next;
      lacks = lacks_front b bs i (omega arith) h;
    }

-- a word that begins with a minus
pub minus_first : (word : List ℕ) → get_or word 0 0 ≡ 45 → word ≡ 45 ∷ take (length word - 1) (drop 1 word)
minus_first [] e = absurd (omega arith)
minus_first (b ∷ bs) e = ap (λ x. x ∷ bs) e ∙ ap (λ l. 45 ∷ l) (sym (from_on 1 (b ∷ bs)))

-- each byte of a list of digits is one
pub digits_at : (bs : List ℕ) (i d : ℕ) → i < length bs → AllDigits 10 bs → digit_value (get_or bs i d) < 10
digits_at [] i d lt h = absurd (omega arith)
digits_at (b ∷ bs) zero d lt h = h.0
digits_at (b ∷ bs) (suc i) d lt h = digits_at bs i d (omega arith) h.1

-- more digits write no smaller number
value_least : (n : ℕ) (bs : List ℕ) → n ≤ digits_value_after 10 n bs
value_least n [] = omega arith
value_least n (b ∷ bs) = let h = value_least (n * 10 + digit_value b) bs in omega arith

-- a word whose front writes the number v, where the digits `left` follow
pub record Begun (word : List ℕ) (v : ℕ) (left : List ℕ) : Type 0 where
  pub digits : AllDigits 10 left → AllDigits 10 word
  pub number : digits_value 10 word ≡ digits_value_after 10 v left

-- a digit more: ten times the number, and the digit
pub one_more
    : {word : List ℕ} {v d : ℕ} (i : ℕ) → i < length word → Begun word v (drop i word) → digit_value (get_or word i 0) ≡ d → d < 10
    → Begun word (v * 10 + d) (drop (i + 1) word)
one_more {word} {v} i lt u e small =
    let next = drop_more word i 0 lt in
    record {
      digits = λ h. u.digits (subst (AllDigits 10) (sym next) (subst (λ x. x < 10) (sym e) small, h));
      number = u.number ∙ ap (digits_value_after 10 v) next ∙ ap (λ x. digits_value_after 10 (v * 10 + x) (drop (i + 1) word)) e;
    }

-- once the front is too large, so is the whole
pub too_large : {word left : List ℕ} {v : ℕ} (most : ℕ) → Begun word v left → most < v → (n : ℕ) → Writes word n → ¬ (n ≤ most)
too_large {left = left} {v = v} most u lt n w le = let h = value_least v left in omega (arith, u.number, w.number)

-- no value of a byte is both a digit's and not
pub no_digit : (n : ℕ) → n < 10 → 10 ≤ n → ⊥
no_digit n lt le = omega arith
