-- A tally: a signed 32-bit number.
use Rattle.std.specs.Prelude.{cond, ℕ, eqb, ℤ, pos, negsuc, ◌+ℤ◌, ◌-ℤ◌}
use Rattle.std.specs.Int.Signed.{le_z}
use Rattle.kinds.specs.declared.tally.TallyOperation.{TallyOperation}
use Rattle.kinds.specs.declared.tally.TallyOperation.TheVariants.{Read, AddOperand, AddRegister, TakeOff}

abbrev pub tally_codes : ℕ
tally_codes = 4

-- the code of an operation
abbrev pub code_of : TallyOperation → ℕ
code_of Read = 0
code_of AddOperand = 1
code_of AddRegister = 2
code_of TakeOff = 3

-- it shows as itself
abbrev pub tally_number : ℤ → ℤ
tally_number value = value

abbrev least : ℤ
least = negsuc 2147483647

abbrev greatest : ℤ
greatest = pos 2147483647

-- a sum or a difference stops at the ends of the range
abbrev stopped : ℤ → ℤ
stopped z = cond (le_z z least) least (cond (le_z greatest z) greatest z)

-- the new tally and the new register, by the code
abbrev pub tally_act : ℤ → ℕ → ℤ → ℤ → ℤ × ℤ
tally_act value code operand register =
    -- reads the tally
    cond (eqb code 0) (value, value)
    -- adds the operand, and reads the new tally
    (cond (eqb code 1) (stopped (value +ℤ operand), stopped (value +ℤ operand))
    -- adds the register, and clears it
    (cond (eqb code 2) (stopped (value +ℤ register), pos 0)
    -- takes the operand off if there is enough
    (cond (eqb code 3) (cond (le_z operand value) (stopped (value -ℤ operand), operand) (value, negsuc 0))
    (value, register))))
