-- Room for what a list of calls answers, had before the first call.
use Rattle.std.specs.Prelude.{◌≡◌, ◌≤◌, ℕ, [], Vec, vec_capacity}

-- an empty row with room for n
abbrev pub IsRoom : {X Z : Type 0} → ℕ → Vec X Z → Type 0
IsRoom n v = (v.items ≡ []) × (n ≤ vec_capacity v)
