use Rattle.std.proofs.Common.{◌≡◌, ℕ, ◌<◌, List, length, set, Some, sym, ap, ◌∙◌, arith, length-take, drop-set-lt, w32, SFits, rules}
use Rattle.std.proofs.Math.Seq.{take-set-lt}
use Rattle.std.proofs.lemmas.Int.{to_z-of_z}
use Rattle.std.proofs.lemmas.Option.{slice_get_within}
use Rattle.std.specs.List.{slice_get}
use Rattle.stores.specs.Stores.{counted}
use Rattle.stores.proofs.Acts.{register_at, after_none, after_at}
use Rattle.stores.proofs.row.act_at.Goals as goal

-- an item that counts is one of the first 4,096, and in the row
within : {V : Type 0} (row : List V) (i : ℕ) (v : V) → Some v ≡ slice_get (counted row) i → (i < 4096) × (i < length row)
within row i v e = let inside = simp length-take at (slice_get_within (counted row) i v (sym e)) in (omega arith, omega arith)

pub returns-in_err-value-clause-after : goal.returns-in_err-value-clause-after
returns-in_err-value-clause-after g c = after_none g.K.Kind.acted _ _ _ (counted c.args.row.now) c.args.i c.in_err-value.ensures

pub bounds-row-i : goal.bounds-row-i
bounds-row-i g c = let inside = within c.args.row.now c.args.i _ c.in_ok-value.ensures in omega arith

pub offset_bounds-row-i : goal.offset_bounds-row-i
offset_bounds-row-i g c = let inside = within c.args.row.now c.args.i _ c.in_ok-value.ensures in search rules

pub returns : goal.returns
returns g c =
    let a = c.args in
    let row = a.row.now in
    let act = g.K.Kind.acted in
    let operand = c.ranges.operand in
    let register = c.ranges.register in
    let fits : SFits w32 c.act-new_value.result.1 = search rules in
    let there = c.in_ok-value.ensures in
    let low = (within row a.i _ there).0 in
    let made : c.act-new_value.result ≡ act c.in_ok-value.field-0.now a.code a.operand a.register = simp to_z-of_z at c.act-new_value.ensures in
    record {
      answer = ap Some (to_z-of_z w32 _ fits ∙ ap (λ p. p.1) made) ∙ register_at act _ _ _ (counted row) a.i _ there;
      after = take-set-lt 4096 row a.i _ low ∙ ap (λ p. set (counted row) a.i p.0) made ∙ after_at act _ _ _ (counted row) a.i _ there;
      outside = drop-set-lt 4096 row a.i _ low;
    }
