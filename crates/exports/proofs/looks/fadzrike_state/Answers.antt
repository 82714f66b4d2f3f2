use Rattle.std.proofs.Common.{refl}
use Rattle.exports.specs.Looks.{absent, cannot, there}
use Rattle.exports.proofs.looks.fadzrike_state.Goals as goal

pub returns-in-Err : goal.returns-in-Err
returns-in-Err c = cannot c.in-Err.fault c.in-Err.ensures (refl, refl) c.end_of.ensures

pub returns-in_default : goal.returns-in_default
returns-in_default c =
    let f = c.in-Ok.ensures in
    absent c.in-Ok.workload (f.0, f.1, f.2) c.in_default.ensures (refl, refl) refl

pub returns : goal.returns
returns c =
    let f = c.in-Ok.ensures in
    there c.in-Ok.workload (f.0, f.1, f.2)
    record {
      unreachable = (c.in-Some.not_ahead, c.in-Some.ensures.1, c.put_set.ensures);
      unlockable = (c.in-Some-unlockable.left_behind, c.in-Some-unlockable.ensures.1, c.put_set-2.ensures);
    }
    refl
