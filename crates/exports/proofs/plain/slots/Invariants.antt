use Rattle.std.proofs.Common.{◌≡◌, map, take, vec_items}
use Rattle.exports.specs.Plain.{slot_of}
use Rattle.exports.proofs.plain.slots.Given as goal

abbrev pub invariant-loop-one : goal.invariant-loop-one
invariant-loop-one l = vec_items l.slots ≡ map slot_of (take l.one-index l.plain)
