use Rattle.std.proofs.Common.{arith}
use Rattle.itemset.proofs.Laws.{has_without}
use Rattle.itemset.proofs.word.first_only.Goals as goal

pub returns : goal.returns
returns c = has_without c.args.a c.args.b (omega arith) (omega arith)
