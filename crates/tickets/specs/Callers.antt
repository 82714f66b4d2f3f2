-- What a caller's calls come to, in the words of the model.
use Rattle.std.specs.Prelude.{◌≡◌, ℕ, ℤ, Some, None, Option, Err, Result}
use Rattle.model.specs.Table as model
use Rattle.table.specs.Answers.{leave_answer}
use Rattle.table.specs.Numbers.{number}
use Rattle.table.specs.declared.answer.Refusal.{Refusal}

-- `moved` is the relation between a table, a call, its answer and the table afterwards.
module _ {M : Type 0} (moved : M → model.Call → model.Answer → M → Type 0) where
  -- A ticket of the place p was collected on; or that was refused, and it was left.
  abbrev pub Ended : ℕ → M → Option ℤ → M → Type 0
  Ended p old (Some v) new = moved old (model.collect p) (model.collected v) new
  Ended p old None new =
      (n : ℕ) × (mid : M) × (a : model.Answer) × moved old (model.collect p) (model.refused n) mid × moved mid (model.leave p) a new

  -- A begin was refused, or its ticket was left.
  pub data BegunAndLeft (p t : ℕ) (x : ℤ) (old : M) (r : Result (Unit {0}) Refusal) (new : M) : Type 0 where
    refused : (e : Refusal) → r ≡ Err e → moved old (model.begin p t x) (model.refused (number e)) new → BegunAndLeft p t x old r new
    left
        : (mid : M) → moved old (model.begin p t x) model.began mid → moved mid (model.leave p) (leave_answer r) new
        → BegunAndLeft p t x old r new
