use Rattle.locking.proofs.Tree.{tree_positions}
use Rattle.locking.proofs.tree_positions_stand.Goals as goal

pub returns : goal.returns
returns c = tree_positions
