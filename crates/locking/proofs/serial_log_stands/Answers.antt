use Rattle.locking.proofs.Serial.{serial_log}
use Rattle.locking.proofs.serial_log_stands.Goals as goal

pub returns : goal.returns
returns g c = serial_log g.row.P.Denot
