use Rattle.std.proofs.Common.{◌≡◌, ◌+◌, ◌<◌, [], ◌∷◌, ◌++◌, Some, map, length, take, pos, ap, ◌∙◌, sym, w64, SFits, rules}
use Rattle.std.specs.List.{slice_get}
use Rattle.std.proofs.lemmas.Int.{to_z-of_z}
use Rattle.std.proofs.lemmas.List.{length-map, take_more}
use Rattle.std.proofs.lemmas.Option.{get_or_from_slice_get, slice_get-get_or, slice_get-map, slice_get_within}
use Rattle.table.proofs.rows.show_in.Goals as goal

pub loop-i-preserved : goal.loop-i-preserved
loop-i-preserved g c =
    let i = c.loop-i.i in
    let x = c.unwrap.result in
    let vs = g.S.ShowingStore.values c.args.store.now in
    let numbers = map g.K.Kind.number vs in
    let fits : SFits w64 x = search rules in
    let shows : slice_get numbers i ≡ Some x = slice_get-map g.K.Kind.number vs i ∙ sym c.shown.ensures ∙ c.unwrap.ensures in
    let more : take (i + 1) numbers ≡ take i numbers ++ x ∷ [] =
    take_more numbers i x (slice_get_within numbers i x shows) ∙ ap (λ y. take i numbers ++ y ∷ []) (get_or_from_slice_get numbers i x x shows) in
    record {
      told = search rules;
      room = search rules;
      so_far = (simp to_z-of_z at c.push_reserved.ensures.items) ∙ ap (λ xs. xs ++ x ∷ []) c.loop-i.invariant.so_far ∙ sym more;
    }

pub unwrap-requires : goal.unwrap-requires
unwrap-requires g c =
    let vs = g.S.ShowingStore.values c.args.store.now in
    let numbers = map g.K.Kind.number vs in
    let within : c.loop-i.i < length numbers = simp length-map (search rules) in
    rw (c.shown.ensures, ← slice_get-map g.K.Kind.number vs c.loop-i.i, slice_get-get_or numbers c.loop-i.i (pos 0) within)
