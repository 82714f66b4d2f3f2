-- Taking off a tally.
use Rattle.std.specs.Prelude.{◌≡◌, ℤ, pos, negsuc}
use Rattle.kinds.specs.declared.kind.Kind.{Ghosts}
use Rattle.kinds.specs.declared.tally.Tally.{Tally}

-- By the code 3 with the operand 5, whatever the register holds: k is the kind of tallies.
pub record TakesOff (k : Ghosts Tally ℤ) : Type 0 where
  -- too little is left alone, and the register tells so
  pub too_little : (register : ℤ) → k.acted (pos 4) 3 (pos 5) register ≡ (pos 4, negsuc 0)
  -- enough is taken off, and the register tells how much that was
  pub enough : (register : ℤ) → k.acted (pos 5) 3 (pos 5) register ≡ (pos 0, pos 5)
