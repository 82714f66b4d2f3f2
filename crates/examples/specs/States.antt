-- States as a file has them, with the operand 0.
use Rattle.std.specs.Prelude.{ℕ, [], ◌∷◌, pos}
use Rattle.rules.specs.declared.state.State.{State}

abbrev pub last : (item code : ℕ) → State
last item code = record { item = item; code = code; operand = pos 0; arc_count = 0; arcs = 0 ∷ 0 ∷ 0 ∷ 0 ∷ [] }

-- with an arc to the state s
abbrev pub leading : (item code s : ℕ) → State
leading item code s = record { item = item; code = code; operand = pos 0; arc_count = 1; arcs = s ∷ 0 ∷ 0 ∷ 0 ∷ [] }

-- with arcs to the states s and r
abbrev pub forking : (item code s r : ℕ) → State
forking item code s r = record { item = item; code = code; operand = pos 0; arc_count = 2; arcs = s ∷ r ∷ 0 ∷ 0 ∷ [] }
