use Rattle.locking.proofs.Serializable.{tree_serial}
use Rattle.locking.proofs.tree_serial_stands.Goals as goal

pub returns : goal.returns
returns g c = tree_serial g.row.P.Denot g.row.V.Denot
