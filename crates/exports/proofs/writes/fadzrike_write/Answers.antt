use Rattle.std.proofs.Common.{refl, ap}
use Rattle.exports.specs.Writes.{cannot, wrote}
use Rattle.exports.specs.declared.told.End.{End}
use Rattle.exports.specs.declared.writes.WriteTold.{WriteTold}
use Rattle.exports.proofs.writes.fadzrike_write.Goals as goal

-- what is told where nothing is written
unwritten : End → WriteTold
unwritten e = record { end = e; refusal = 0; length = 0 }

pub returns-in-Ok : goal.returns-in-Ok
returns-in-Ok c =
    let f = c.in-Ok.ensures in
    wrote c.in-Ok.workload c.write.result (f.0, f.1, f.2) c.write.ensures c.told_of.ensures

pub returns-in-Err : goal.returns-in-Err
unfolding unwritten
returns-in-Err c = cannot c.in-Err.fault c.in-Err.ensures refl (ap unwritten c.end_of.ensures)
