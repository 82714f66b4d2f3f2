use Rattle.itemset.proofs.Laws.{has_or}
use Rattle.itemset.proofs.word.either.Goals as goal

pub returns : goal.returns
returns c = has_or c.args.a c.args.b
