-- The worked examples.
use Rattle.std.specs.Prelude.{ℤ}
use Rattle.kinds.specs.declared.kind.Kind.{Ghosts}
use Rattle.kinds.specs.declared.tally.Tally.{Tally}
use Rattle.examples.specs.Tallies.{TakesOff}
use Rattle.examples.specs.Files.{FileAnswers}
use Rattle.examples.specs.Sets.{UnlockableSets}
use Rattle.examples.specs.Listing.{Listing}

-- k is the kind of tallies
pub record WorkedExamples (k : Ghosts Tally ℤ) : Type 0 where
  pub takes_off : TakesOff k
  pub file : FileAnswers
  pub sets : UnlockableSets
  pub listing : Listing k
