use Rattle.std.proofs.Common.{◌≡◌, ◌≤◌, length, refl, arith, length-take, rules}
use Rattle.stores.specs.Stores.{counted}
use Rattle.exports.proofs.Failing.{besides}
use Rattle.exports.proofs.Lengths.{numbers_of_run}
use Rattle.exports.specs.Told.{cannot, does, wants_room}
use Rattle.exports.proofs.runs.run_and_tell.Goals as goal

pub returns-then-answers-plain : goal.returns-then-answers-plain
returns-then-answers-plain g c =
    wants_room (simp length-take (search rules)) (refl, refl, refl) refl

pub put_outcome-requires-clause-shown : goal.put_outcome-requires-clause-shown
put_outcome-requires-clause-shown g c =
    let all : length c.in-Ok.outcome.shown.items ≡ length (counted c.args.row.now) = numbers_of_run g.K.Kind _ _ _ c.in-Ok.outcome c.in-Ok.ensures in
    let counts : length (counted c.args.row.now) ≤ c.min.result = simp length-take (search rules) in
    omega (arith, c.if-shown-min.false)

pub returns-in-Err : goal.returns-in-Err
returns-in-Err g c = cannot c.in-Err.fault (besides _ (λ row. (row, refl, refl)) c.in-Err.ensures) c.end_of.ensures

pub returns : goal.returns
returns g c = does refl record { outcome = c.in-Ok.outcome; run = c.in-Ok.ensures; told = c.put_outcome.ensures }
