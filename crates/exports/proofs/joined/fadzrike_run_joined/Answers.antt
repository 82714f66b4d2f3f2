use Rattle.std.proofs.Common.{◌≡◌, ◌≤◌, ◌++◌, length, refl, arith, length-take, rules}
use Rattle.std.proofs.lemmas.List.{length-append}
use Rattle.kinds.specs.contracts.tally.TallyKind.TheImpl as tally
use Rattle.stores.specs.Stores.{counted}
use Rattle.exports.proofs.Failing.{besides}
use Rattle.exports.proofs.Lengths.{numbers_of_run}
use Rattle.exports.specs.Told.{cannot, does, wants_room}
use Rattle.exports.proofs.joined.fadzrike_run_joined.Goals as goal

pub returns-then-answers-plain : goal.returns-then-answers-plain
returns-then-answers-plain c =
    wants_room (simp (length-take, length-append) (search rules)) (refl, refl, refl, refl) refl

pub put_outcome-requires-clause-shown : goal.put_outcome-requires-clause-shown
put_outcome-requires-clause-shown c =
    let joined = counted c.args.front.now ++ counted c.args.back.now in
    let all : length c.in-Ok.outcome.shown.items ≡ length (counted joined) =
    numbers_of_run tally.ghosts _ _ _ c.in-Ok.outcome c.in-Ok.ensures in
    let counts : length (counted joined) ≤ c.min-else-answers-plain.result = simp (length-take, length-append) (search rules) in
    omega (arith, c.if-shown-min.false)

pub returns-in-Err : goal.returns-in-Err
returns-in-Err c = cannot c.in-Err.fault (besides _ (λ rows. (rows.0, rows.1, refl, refl)) c.in-Err.ensures) c.end_of.ensures

pub returns : goal.returns
returns c = does refl record { outcome = c.in-Ok.outcome; run = c.in-Ok.ensures; told = c.put_outcome.ensures }
