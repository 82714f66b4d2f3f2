-- A berth slot: free, or held with a container's number.
use Rattle.std.specs.Prelude.{cond, ℕ, eqb, ℤ, pos, negsuc}
use Rattle.std.specs.Int.Signed.{le_z}
use Rattle.kinds.specs.declared.slot.Slot.{Slot}
use Rattle.kinds.specs.declared.slot.Slot.TheVariants.{Free, Held}
use Rattle.kinds.specs.declared.slot.SlotOperation.{SlotOperation}
use Rattle.kinds.specs.declared.slot.SlotOperation.TheVariants.{AskHeld, Take, Lift}

abbrev pub slot_codes : ℕ
slot_codes = 3

-- the code of an operation
abbrev pub code_of : SlotOperation → ℕ
code_of AskHeld = 0
code_of Take = 1
code_of Lift = 2

-- a free slot shows as a number above all container numbers
abbrev pub slot_number : Slot → ℤ
slot_number Free = pos 4294967296
slot_number (Held number) = number

-- the new slot and the new register, by the code: 0 asks whether it is held, 1 takes it, 2 lifts its container
abbrev pub slot_act : Slot → ℕ → ℤ → ℤ → Slot × ℤ
slot_act Free code operand register =
    cond (eqb code 0) (Free, pos 0)
    (cond (eqb code 1) (cond (le_z (pos 1) register) (Held register, negsuc 0) (Free, register))
    (cond (eqb code 2) (Free, negsuc 0)
    (Free, register)))
slot_act (Held number) code operand register =
    cond (eqb code 0) (Held number, pos 1)
    (cond (eqb code 1) (Held number, register)
    (cond (eqb code 2) (Free, number)
    (Held number, register)))
