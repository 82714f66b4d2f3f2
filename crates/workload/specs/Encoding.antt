-- The bytes of a workload file.
use Rattle.std.specs.Prelude.{ℕ, ◌/◌, ◌%◌, List, [], ◌∷◌, ◌++◌, length}
use Rattle.std.specs.Int.{w32}
use Rattle.std.proofs.Common.{of_z}
use Rattle.std.specs.List.{flat_map}
use Rattle.rules.specs.declared.state.State.{State}

-- the letters TLW
abbrev pub mark : List ℕ
mark = 84 ∷ 76 ∷ 87 ∷ []

-- version 1, in two bytes
abbrev pub version : List ℕ
version = 0 ∷ 1 ∷ []

-- a number in two bytes, high byte first
abbrev pub pair : ℕ → List ℕ
pair n = n / 256 % 256 ∷ n % 256 ∷ []

-- a number in four bytes, high byte first
abbrev pub quad : ℕ → List ℕ
quad n = n / 16777216 % 256 ∷ n / 65536 % 256 ∷ n / 256 % 256 ∷ n % 256 ∷ []

-- the record of a state: item, code, operand in two's complement, arc count and four arcs
abbrev pub record_bytes : State → List ℕ
record_bytes s = s.item ∷ s.code ∷ quad (of_z w32 s.operand) ++ s.arc_count ∷ s.arcs

-- a type: the number of its states and their records
abbrev pub type_bytes : List State → List ℕ
type_bytes states = length states ∷ flat_map record_bytes states

-- the note and its length
abbrev pub note_bytes : List ℕ → List ℕ
note_bytes note = pair (length note) ++ note

-- a whole file
abbrev pub encoded : (parents : List ℕ) (count : ℕ) (types : List (List State)) (note : List ℕ) → List ℕ
encoded parents count types note =
    mark ++ (version ++ (length parents ∷ length types ∷ count ∷ (parents ++ (flat_map type_bytes types ++ note_bytes note))))
