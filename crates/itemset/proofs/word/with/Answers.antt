use Rattle.itemset.proofs.Laws.{has_inserted}
use Rattle.itemset.proofs.word.with.Goals as goal

pub returns : goal.returns
returns c = has_inserted c.args.word c.args.d c.requires
