-- The input of the program, and the calls that it asks for.
use Rattle.std.specs.Prelude.{◌≡◌, ℕ, suc, ◌<◌, ◌≤◌, ◌⊎◌, List, [], ◌∷◌, ◌++◌, map, length, ℤ, pos, neg_ℤ}
use Rattle.std.specs.Char.{digit_value}
use Rattle.std.specs.Str.Parse.{AllDigits, IsNumeral, digits_value}
use Rattle.table.specs.declared.answer.Call.{Call}
use Rattle.table.specs.declared.answer.Call.TheVariants.{Begin, Step, Collect}

-- digits that write the number n, of which there is at least one; zeros may lead
pub record Writes (word : List ℕ) (n : ℕ) : Type 0 where
  pub numeral : IsNumeral 10 word
  pub number : digits_value 10 word ≡ n

-- the negative of n
abbrev pub negative : ℕ → ℤ
negative n = neg_ℤ (pos n)

-- an argument: digits, perhaps after a minus, that write a signed 32-bit number
pub data Argument (word : List ℕ) (a : ℤ) : Type 0 where
  plain : (n : ℕ) → Writes word n → n ≤ 2147483647 → a ≡ pos n → Argument word a
  after_minus : (digits : List ℕ) (n : ℕ) → word ≡ 45 ∷ digits → Writes digits n → n ≤ 2147483648 → a ≡ negative n → Argument word a

-- A begin line: a type of at most 255, a blank, an argument and a line feed.
pub record Line (bs : List ℕ) (t : ℕ) (a : ℤ) : Type 0 where
  pub type : List ℕ
  pub argument : List ℕ
  pub bytes : bs ≡ type ++ 32 ∷ (argument ++ 10 ∷ [])
  pub type_writes : Writes type t
  pub type_small : t ≤ 255
  pub argument_writes : Argument argument a

-- no begin line stands at the front
abbrev pub NoLine : List ℕ → Type 0
NoLine bs = (front rest : List ℕ) (t : ℕ) (a : ℤ) → bs ≡ front ++ rest → Line front t a → ⊥

-- The begins of the lines at the front of bs, from the place p on, and the bytes that follow: at most three in all.
pub data Begins : ℕ → List ℕ → List Call → List ℕ → Type 0 where
  three : (bs : List ℕ) → Begins 3 bs [] bs
  cut_short : (p : ℕ) (bs : List ℕ) → p < 3 → NoLine bs → Begins p bs [] bs
  line
      : (p : ℕ) (bs front rest end : List ℕ) (t : ℕ) (a : ℤ) (cs : List Call) → p < 3 → bs ≡ front ++ rest → Line front t a
      → Begins (suc p) rest cs end → Begins p bs (Begin p t a ∷ cs) end

-- no digit stands first
abbrev pub NoDigit : List ℕ → Type 0
NoDigit [] = Unit {0}
NoDigit (b ∷ bs) = 10 ≤ digit_value b

-- all digits at the front of bs
pub record FrontDigits (bs ds : List ℕ) : Type 0 where
  pub rest : List ℕ
  pub bytes : bs ≡ ds ++ rest
  pub digits : AllDigits 10 ds
  pub whole : NoDigit rest

-- a step at the place that a digit names
abbrev pub step_at : ℕ → Call
step_at b = Step (digit_value b)

-- what each of the three places is asked at the end
abbrev pub collects : List Call
collects = Collect 0 ∷ Collect 1 ∷ Collect 2 ∷ []

-- The calls that an input asks for: its begins, then a step for each digit after three begin lines, and then the three collects.
pub record Asks (bs : List ℕ) (cs : List Call) : Type 0 where
  pub begins : List Call
  pub rest : List ℕ
  pub steps : List ℕ
  pub lines : Begins 0 bs begins rest
  pub turns : ((length begins ≡ 3) × FrontDigits rest steps) ⊎ ((length begins < 3) × (steps ≡ []))
  pub calls : cs ≡ begins ++ (map step_at steps ++ collects)
