use Rattle.std.proofs.Common.{◌≡◌, map, take, vec_items}
use Rattle.exports.proofs.joined.numbers_shown.Given as goal

abbrev pub invariant-loop-i : goal.invariant-loop-i
invariant-loop-i g l = vec_items l.shown ≡ take l.i (map g.K.Kind.number (g.S.ShowingStore.values l.store))
