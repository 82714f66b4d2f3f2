use Rattle.itemset.proofs.Laws.{has_and}
use Rattle.itemset.proofs.word.both.Goals as goal

pub returns : goal.returns
returns c = has_and c.args.a c.args.b
