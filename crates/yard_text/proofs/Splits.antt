-- Where a line divides: at its first line feed, and within at its first blank.
use Rattle.std.proofs.Common.{◌≡◌, ℕ, ◌<◌, ◌≤◌, List, [], ◌∷◌, ◌++◌, sym, refl, ap, ◌∙◌, subst, arith, append_assoc, ℤ}
use Rattle.std.specs.Char.{digit_value}
use Rattle.std.specs.Str.Parse.{AllDigits}
use Rattle.yard_text.specs.Input.{Writes, Argument, Line, NoLine}
use Rattle.yard_text.specs.Input.Argument.{plain, after_minus}
use Rattle.yard_text.specs.Reading.{Lacks, Cut}
use Rattle.yard_text.proofs.Bytes.{no_digit}

-- a list with a byte in it does not lack the byte
not_lacking : (b : ℕ) (xs ys : List ℕ) → Lacks b (xs ++ b ∷ ys) → ⊥
not_lacking b [] ys h = h.0 refl
not_lacking b (x ∷ xs) ys h = not_lacking b xs ys h.1

-- two lists that lack a byte lack it together
lacks_join : (b : ℕ) (xs ys : List ℕ) → Lacks b xs → Lacks b ys → Lacks b (xs ++ ys)
lacks_join b [] ys h k = k
lacks_join b (x ∷ xs) ys h k = (h.0, lacks_join b xs ys h.1 k)

-- what stands before the first place of a byte is one list, and so is what stands after it
same_parts : (b : ℕ) (xs ys us vs : List ℕ) → Lacks b xs → Lacks b us → xs ++ b ∷ ys ≡ us ++ b ∷ vs → (xs ≡ us) × (ys ≡ vs)
same_parts b [] ys [] vs h k e = (refl, cc)
same_parts b [] ys (u ∷ us) vs h k e = absurd (k.0 (cc))
same_parts b (x ∷ xs) ys [] vs h k e = absurd (h.0 (cc))
same_parts b (x ∷ xs) ys (u ∷ us) vs h k e =
    let heads : x ≡ u = cc in
    let tails : xs ++ b ∷ ys ≡ us ++ b ∷ vs = cc in
    let s = same_parts b xs ys us vs h.1 k.1 tails in
    let fronts : xs ≡ us = s.0 in
    (cc, s.1)

same_cut : {b : ℕ} {bs xs ys us vs : List ℕ} → Cut b bs xs ys → Cut b bs us vs → (xs ≡ us) × (ys ≡ vs)
same_cut {b} {bs} {xs} {ys} {us} {vs} h k = same_parts b xs ys us vs h.lacks k.lacks (sym h.bytes ∙ k.bytes)

-- what lacks a byte is not cut by it
no_cut : {b : ℕ} {bs xs ys : List ℕ} → Lacks b bs → Cut b bs xs ys → ⊥
no_cut {b} {bs} {xs} {ys} h k = not_lacking b xs ys (subst (Lacks b) k.bytes h)

-- digits lack what is no digit
digits_lack : (b : ℕ) (ds : List ℕ) → 10 ≤ digit_value b → AllDigits 10 ds → Lacks b ds
digits_lack b [] le h = tt
digits_lack b (d ∷ ds) le h = (λ e. no_digit (digit_value b) (subst (λ x. digit_value x < 10) e h.0) le, digits_lack b ds le h.1)

-- an argument has no line feed
argument_lacks : (word : List ℕ) (a : ℤ) → Argument word a → Lacks 10 word
argument_lacks word a (plain n w le e) = digits_lack 10 word (omega arith) w.numeral.1
argument_lacks word a (after_minus digits n s w le e) = subst (Lacks 10) (sym s) ((λ m. omega arith), digits_lack 10 digits (omega arith) w.numeral.1)

-- the parts of a list with a line at its front: the first line feed ends the line, the first blank its type
record FrontLine (bs : List ℕ) (t : ℕ) (a : ℤ) : Type 0 where
  line : List ℕ
  rest : List ℕ
  type : List ℕ
  argument : List ℕ
  outer : Cut 10 bs line rest
  inner : Cut 32 line type argument
  type_writes : Writes type t
  type_small : t ≤ 255
  argument_writes : Argument argument a

-- a line at the front has such parts
front_line : (bs front rest : List ℕ) (t : ℕ) (a : ℤ) → bs ≡ front ++ rest → Line front t a → FrontLine bs t a
front_line bs front rest t a e l =
    let blank : Lacks 10 (32 ∷ l.argument) = ((λ m. omega arith), argument_lacks l.argument a l.argument_writes) in
    record {
      line = l.type ++ 32 ∷ l.argument;
      rest = rest;
      type = l.type;
      argument = l.argument;
      outer = record {
        bytes = e ∙ ap (λ x. x ++ rest) l.bytes ∙ append_assoc l.type (32 ∷ (l.argument ++ 10 ∷ [])) rest
            ∙ ap (λ x. l.type ++ 32 ∷ x) (append_assoc l.argument (10 ∷ []) rest)
            ∙ sym (append_assoc l.type (32 ∷ l.argument) (10 ∷ rest));
        lacks = lacks_join 10 l.type (32 ∷ l.argument) (digits_lack 10 l.type (omega arith) l.type_writes.numeral.1) blank;
      };
      inner = record { bytes = refl; lacks = digits_lack 32 l.type (omega arith) l.type_writes.numeral.1 };
      type_writes = l.type_writes;
      type_small = l.type_small;
      argument_writes = l.argument_writes;
    }

-- no line feed, no line
pub no_line_feed : (bs : List ℕ) → Lacks 10 bs → NoLine bs
no_line_feed bs h = λ front rest t a e l. no_cut h (front_line bs front rest t a e l).outer

-- the line that the first line feed ends is the one at the front
inner_cut : {bs line rest : List ℕ} {t : ℕ} {a : ℤ} → Cut 10 bs line rest → (f : FrontLine bs t a) → Cut 32 line f.type f.argument
inner_cut h f = subst (λ l. Cut 32 l f.type f.argument) (sym (same_cut h f.outer).0) f.inner

-- no blank before the line feed, no line
pub no_blank : {bs line rest : List ℕ} → Cut 10 bs line rest → Lacks 32 line → NoLine bs
no_blank {bs} h k = λ front end t a e l. no_cut k (inner_cut h (front_line bs front end t a e l))

-- no type before the blank, no line
pub no_type
    : {bs line rest type argument : List ℕ} → Cut 10 bs line rest → Cut 32 line type argument → ((n : ℕ) → Writes type n → ¬ (n ≤ 255)) → NoLine bs
no_type {bs} h k none = λ front end t a e l.
    let f = front_line bs front end t a e l in
    none t (subst (λ w. Writes w t) (sym (same_cut k (inner_cut h f)).0) f.type_writes) f.type_small

-- no argument after the blank, no line
pub no_argument
    : {bs line rest type argument : List ℕ} → Cut 10 bs line rest → Cut 32 line type argument → ((a : ℤ) → ¬ Argument argument a) → NoLine bs
no_argument {bs} h k none = λ front end t a e l.
    let f = front_line bs front end t a e l in
    none a (subst (λ w. Argument w a) (sym (same_cut k (inner_cut h f)).1) f.argument_writes)

-- a type before the blank and an argument after it make a line
pub line_from_parts
    : {bs line rest type argument : List ℕ} {t : ℕ} {a : ℤ} → Cut 10 bs line rest → Cut 32 line type argument → Writes type t → t ≤ 255
    → Argument argument a → (front : List ℕ) × (bs ≡ front ++ rest) × Line front t a
line_from_parts {line = line} {rest = rest} {type = type} {argument = argument} h k w small arg = (
  line ++ 10 ∷ [],
  h.bytes ∙ sym (append_assoc line (10 ∷ []) rest),
  record {
    type = type;
    argument = argument;
    bytes = ap (λ l. l ++ 10 ∷ []) k.bytes ∙ append_assoc type (32 ∷ argument) (10 ∷ []);
    type_writes = w;
    type_small = small;
    argument_writes = arg;
  },
)
