use Rattle.std.proofs.Common.{◌≡◌, ◌+◌, [], ◌∷◌, ◌++◌, Some, map, take, ap, ◌∙◌, sym, w64, SFits, rules}
use Rattle.std.specs.List.{slice_get}
use Rattle.std.proofs.lemmas.Int.{to_z-of_z}
use Rattle.std.proofs.lemmas.List.{take_more}
use Rattle.std.proofs.lemmas.Option.{get_or_from_slice_get, slice_get-map, slice_get_within}
use Rattle.exports.proofs.joined.numbers_shown.Goals as goal

pub loop-i-preserved : goal.loop-i-preserved
loop-i-preserved g c =
    let i = c.loop-i.i in
    let x = c.unwrap.result in
    let vs = g.S.ShowingStore.values c.args.store.now in
    let numbers = map g.K.Kind.number vs in
    let fits : SFits w64 x = search rules in
    let shows : slice_get numbers i ≡ Some x = slice_get-map g.K.Kind.number vs i ∙ sym c.shown.ensures ∙ c.unwrap.ensures in
    let more : take (i + 1) numbers ≡ take i numbers ++ x ∷ [] =
    take_more numbers i x (slice_get_within numbers i x shows) ∙ ap (λ y. take i numbers ++ y ∷ []) (get_or_from_slice_get numbers i x x shows) in
    (simp to_z-of_z at c.in_ok-push.ensures.items) ∙ ap (λ xs. xs ++ x ∷ []) c.loop-i.invariant ∙ sym more
