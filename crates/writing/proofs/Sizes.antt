-- How many bytes the parts of a file take.
use Rattle.std.proofs.Common.{◌≡◌, ℕ, suc, ◌*◌, List, [], ◌∷◌, length, refl, ap, arith, length-append}
use Rattle.rules.specs.declared.state.State.{State}
use Rattle.rules.specs.Lawful.{Packed}
use Rattle.std.specs.List.{flat_map}
use Rattle.workload.specs.Encoding.{record_bytes}
use Rattle.writing.specs.Puts.{AllPacked}

record_length : (s : State) → Packed s → length (record_bytes s) ≡ 11
record_length s h = ap (λ (k : ℕ). suc (suc (suc (suc (suc (suc (suc k))))))) h.four

pub records_length : (xs : List State) → AllPacked xs → length (flat_map record_bytes xs) ≡ 11 * length xs
records_length [] h = refl
records_length (x ∷ xs) h =
    omega (arith, length-append (record_bytes x) (flat_map record_bytes xs), record_length x (h 0 (omega arith)), records_length xs (λ s l. h (suc s) (omega arith)))
