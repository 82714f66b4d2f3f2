use Rattle.std.proofs.Common.{◌∷◌, ◌++◌, [], ap, ◌∙◌, ℤ, SFits, w32, arith, rules}
use Rattle.std.proofs.lemmas.Int.{to_z-of_z}
use Rattle.table.specs.declared.answer.Call.TheVariants.{Begin}
use Rattle.yard_text.proofs.Calls.{joins_short, joins_three, joins_more}
use Rattle.yard_text.proofs.input.begins.Goals.{else-loop-place-test, then-loop-place-test+in_default}
use Rattle.yard_text.proofs.input.begins.Goals as goal

pub loop-place-preserved : goal.loop-place-preserved
loop-place-preserved c =
    let a = c.in-Some.begin.argument in
    let t = c.in-Some.begin.job_type in
    let fits : SFits w32 a = search rules in
    let calls = c.loop-place.calls.items in
    let found = c.in-Some.ensures in
    let pushed = c.in_ok-push.ensures.items ∙ ap (λ (z : ℤ). calls ++ Begin c.loop-place.place t z ∷ []) (to_z-of_z w32 a fits) in
    joins_more c.args.bytes.now c.loop-place.rest.now found.0 c.in-Some.after.now calls _ c.loop-place.place t a c.loop-place-test.true c.loop-place.invariant found.1 found.2 pushed

pub returns : goal.returns
returns c =
    let bs = c.args.bytes.now in
    let left = c.loop-place.rest.now in
    let calls = c.loop-place.calls.items in
    let joins = c.loop-place.invariant in
    elim c.loop-place-test.branch [
      | else-loop-place-test w ↦ joins_three bs left calls c.loop-place.place (omega (arith, w.loop-place-test.false, c.loop-place.auto.place-end)) joins
      | then-loop-place-test+in_default w ↦ joins_short bs left calls c.loop-place.place w.loop-place-test.true joins w.in_default.ensures
    ]
