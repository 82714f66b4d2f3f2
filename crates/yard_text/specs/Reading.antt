-- What the parts of reading an input find.
use Rattle.std.specs.Prelude.{◌≡◌, ℕ, ◌<◌, ◌≤◌, List, [], ◌∷◌, ◌++◌, map, Some, None, Option, ℤ}
use Rattle.std.specs.Borrow.{Bor}
use Rattle.std.specs.Char.{digit_value}
use Rattle.yard_text.specs.Input.{Writes, Argument, Line, NoLine, FrontDigits, step_at}
use Rattle.yard_text.specs.declared.input.Begin.{Begin}
use Rattle.table.specs.declared.answer.Call.{Call}

-- the byte stands nowhere
abbrev pub Lacks : ℕ → List ℕ → Type 0
Lacks b [] = Unit {0}
Lacks b (x ∷ xs) = ¬ (x ≡ b) × Lacks b xs

-- where the byte first stands, it cuts bs into the two parts
pub record Cut (b : ℕ) (bs front rest : List ℕ) : Type 0 where
  pub bytes : bs ≡ front ++ b ∷ rest
  pub lacks : Lacks b front

abbrev pub CutsOnce : List ℕ → ℕ → Option (Bor (List ℕ) × Bor (List ℕ)) → Type 0
CutsOnce bs b None = Lacks b bs
CutsOnce bs b (Some p) = Cut b bs p.0.now p.1.now

abbrev pub NamesDigit : ℕ → Option ℕ → Type 0
NamesDigit b None = 10 ≤ digit_value b
NamesDigit b (Some d) = (digit_value b ≡ d) × (d < 10)

-- the number that the word writes, if it is at most `most`
abbrev pub NamesNumber : List ℕ → ℕ → Option ℕ → Type 0
NamesNumber word most None = (n : ℕ) → Writes word n → ¬ (n ≤ most)
NamesNumber word most (Some n) = Writes word n × (n ≤ most)

abbrev pub NamesArgument : List ℕ → Option ℤ → Type 0
NamesArgument word None = (a : ℤ) → ¬ Argument word a
NamesArgument word (Some a) = Argument word a

-- the begin line at the front, and the bytes that follow it
abbrev pub NamesLine : List ℕ → Option (Begin × Bor (List ℕ)) → Type 0
NamesLine bs None = NoLine bs
NamesLine bs (Some x) = (front : List ℕ) × (bs ≡ front ++ x.1.now) × Line front x.0.job_type x.0.argument

-- a step is added for each digit at the front
pub record AddsSteps (bs : List ℕ) (old new : List Call) : Type 0 where
  pub steps : List ℕ
  pub front : FrontDigits bs steps
  pub added : new ≡ old ++ map step_at steps
