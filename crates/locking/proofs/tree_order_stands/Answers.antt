use Rattle.locking.proofs.Tree.{tree_order}
use Rattle.locking.proofs.tree_order_stands.Goals as goal

pub returns : goal.returns
returns c = tree_order
