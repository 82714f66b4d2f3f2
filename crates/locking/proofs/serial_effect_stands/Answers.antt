use Rattle.locking.proofs.Serial.{serial_effect}
use Rattle.locking.proofs.serial_effect_stands.Goals as goal

pub returns : goal.returns
returns g c = serial_effect g.row.P.Denot g.row.V.Denot
