use Rattle.std.proofs.Common.{◌≡◌, map, take, vec_items}
use Rattle.exports.specs.Plain.{call_of}
use Rattle.exports.proofs.plain.calls.Given as goal

abbrev pub invariant-loop-one : goal.invariant-loop-one
invariant-loop-one l = vec_items l.calls ≡ map call_of (take l.one-index l.plain)
