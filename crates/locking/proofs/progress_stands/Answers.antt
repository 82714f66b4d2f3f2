use Rattle.locking.proofs.Progress.{progress}
use Rattle.locking.proofs.progress_stands.Goals as goal

pub returns : goal.returns
returns c = progress
