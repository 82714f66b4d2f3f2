-- A set of numbers below 64, by membership. It is held in the binary digits of one 64-bit number.
use Rattle.std.specs.Prelude.{ℕ, ◌/◌, ◌%◌, ◌^◌, Bool, ◌==◌}
use Rattle.itemset.specs.declared.ItemSet.{ItemSet}

-- the digit of 2 ^ d is set in the number s
unfoldable pub has : ℕ → ℕ → Bool
has s d = s / 2 ^ d % 2 == 1

-- d is in the set
abbrev pub holds : ItemSet → ℕ → Bool
holds s d = has s.bits d

-- the set of no number
abbrev pub nothing : ItemSet
nothing = record { bits = 0 }
