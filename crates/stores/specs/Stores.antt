-- The list of values that a store means, what it shows of an item, and what a work at an item makes of it.
use Rattle.std.specs.Prelude.{ℕ, zero, suc, ◌≤◌, List, [], ◌∷◌, length, take, ℤ, Option}
use Rattle.std.proofs.Common.{arith, length-take}
use Rattle.std.specs.Option.{option_map}
use Rattle.std.specs.List.{slice_get}

-- of a longer list the first 4,096 values count
abbrev pub counted : {V : Type 0} → List V → List V
counted values = take 4096 values

pub counted_few : {V : Type 0} (values : List V) → length (counted values) ≤ 4096
counted_few values = simp length-take (omega arith)

-- the number that item i shows, or nothing where there is no such item
abbrev pub shown_item : {V : Type 0} → (V → ℤ) → List V → ℕ → Option ℤ
shown_item number values i = option_map number (slice_get values i)

-- the register after the act at item i, or nothing where there is no such item
abbrev pub register_after : {V : Type 0} → (V → ℕ → ℤ → ℤ → V × ℤ) → List V → ℕ → ℕ → ℤ → ℤ → Option ℤ
register_after act values i code operand register = option_map (λ v. (act v code operand register).1) (slice_get values i)

-- the values after the act at item i: its new value stands there, and all others are as they were
abbrev pub values_after : {V : Type 0} → (V → ℕ → ℤ → ℤ → V × ℤ) → List V → ℕ → ℕ → ℤ → ℤ → List V
values_after act [] i code operand register = []
values_after act (v ∷ values) zero code operand register = (act v code operand register).0 ∷ values
values_after act (v ∷ values) (suc i) code operand register = v ∷ values_after act values i code operand register
