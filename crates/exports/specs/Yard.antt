-- How a text is told.
use Rattle.std.specs.Prelude.{◌≡◌, ℕ, ◌<◌, List, length}
use Rattle.exports.specs.Told.{done, no_memory, no_room}
use Rattle.exports.specs.declared.yard.TextTold.{TextTold}
use Rattle.writing.specs.Files.{Stands}

-- The text stands at the front of the row, or it does not fit and the row is as it was. Its length is told either way.
pub data Puts (text old new : List ℕ) (t : TextTold) : Type 0 where
  fits : Stands text old new t.length → t.end ≡ done → Puts text old new t
  wants_room : length old < length text → new ≡ old → t ≡ record { end = no_room; length = length text } → Puts text old new t

-- A text of which P holds is put into the row, or memory is wanting and the row is as it was.
pub data TellsText (P : List ℕ → Type 0) (old new : List ℕ) (t : TextTold) : Type 0 where
  told : (text : List ℕ) → P text → Puts text old new t → TellsText P old new t
  wants_memory : new ≡ old → t ≡ record { end = no_memory; length = 0 } → TellsText P old new t
