use Rattle.locking.proofs.Progress.{no_deadlock}
use Rattle.locking.proofs.no_deadlock_stands.Goals as goal

pub returns : goal.returns
returns c = no_deadlock
