use Rattle.locking.proofs.Sample.{rules_kept}
use Rattle.locking.proofs.rules_can_be_kept.Goals as goal

pub returns : goal.returns
returns c = rules_kept
