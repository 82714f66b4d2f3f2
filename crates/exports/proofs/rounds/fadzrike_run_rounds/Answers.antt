use Rattle.std.proofs.Common.{◌≡◌, length, refl, ap, arith}
use Rattle.kinds.specs.contracts.tally.TallyKind.TheImpl as tally
use Rattle.exports.proofs.Failing.{besides}
use Rattle.exports.proofs.Lengths.{answers_of_rounds}
use Rattle.exports.specs.Told.{cannot}
use Rattle.exports.proofs.rounds.fadzrike_run_rounds.Goals as goal

pub put_answers-requires : goal.put_answers-requires
put_answers-requires c =
    let all : length c.in-Ok.last.items ≡ length c.args.plain.now =
    answers_of_rounds tally.ghosts _ _ _ c.args.again c.in-Ok.last.items c.in-Ok.ensures in
    let same : length c.as_slice.result.now ≡ length c.in-Ok.last.items = ap length c.as_slice.ensures.value in
    omega (arith, c.if-answers-plain.false)

pub returns-in-Err : goal.returns-in-Err
returns-in-Err c = cannot c.in-Err.fault (besides _ (λ row. (row, refl)) c.in-Err.ensures) c.end_of.ensures
