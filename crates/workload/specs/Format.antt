-- What the eleven bytes of a state's record mean.
use Rattle.std.specs.Prelude.{◌≡◌, ℕ, ◌+◌, ◌*◌, ◌<◌, ◌≤◌, List, [], ◌∷◌, ℤ, ◌≢◌, slice_index}
use Rattle.std.specs.Int.{w32}
use Rattle.std.proofs.Common.{to_z}
use Rattle.rules.specs.declared.state.State.{State}

-- four bytes, high byte first, in two's complement
abbrev pub signed : ℕ → ℕ → ℕ → ℕ → ℤ
signed a b c d = to_z w32 (a * 16777216 + b * 65536 + c * 256 + d)

-- the state that eleven bytes hold
abbrev pub state_of : List ℕ → State
state_of bs = record {
  item = slice_index bs 0;
  code = slice_index bs 1;
  operand = signed (slice_index bs 2) (slice_index bs 3) (slice_index bs 4) (slice_index bs 5);
  arc_count = slice_index bs 6;
  arcs = slice_index bs 7 ∷ slice_index bs 8 ∷ slice_index bs 9 ∷ slice_index bs 10 ∷ [];
}

-- byte k of a state's record is wrong
pub data WrongByte (items codes states : ℕ) (s : State) (k : ℕ) : Type 0 where
  no_item : k ≡ 0 → items ≤ s.item → WrongByte items codes states s k
  no_code : k ≡ 1 → codes ≤ s.code → WrongByte items codes states s k
  many_arcs : k ≡ 6 → 4 < s.arc_count → WrongByte items codes states s k
  -- an arc that is in use leads to no state
  no_state
      : (j : ℕ) → k ≡ 7 + j → j < 4 → j < s.arc_count → states ≤ slice_index s.arcs j → WrongByte items codes states s k
  -- an arc that is not in use is not 0
  not_zero
      : (j : ℕ) → k ≡ 7 + j → j < 4 → s.arc_count ≤ j → (slice_index s.arcs j ≢ 0) → WrongByte items codes states s k

-- the arc byte at j names a state, or is not used and 0
abbrev pub RightArc : (states count j arc : ℕ) → Type 0
RightArc states count j arc = (j < count → arc < states) × (count ≤ j → arc ≡ 0)
