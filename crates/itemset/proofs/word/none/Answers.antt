use Rattle.itemset.proofs.Laws.{has_none}
use Rattle.itemset.proofs.word.none.Goals as goal

pub returns : goal.returns
returns c = has_none
