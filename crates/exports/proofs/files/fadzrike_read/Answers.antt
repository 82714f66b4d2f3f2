use Rattle.exports.specs.Told.{holds, cannot}
use Rattle.exports.proofs.files.fadzrike_read.Goals as goal

pub returns-in-Ok : goal.returns-in-Ok
returns-in-Ok c = holds c.in-Ok.workload c.in-Ok.span c.in-Ok.ensures c.told_of.ensures

pub returns-in-Err : goal.returns-in-Err
returns-in-Err c = cannot c.in-Err.fault c.in-Err.ensures c.told_why.ensures
