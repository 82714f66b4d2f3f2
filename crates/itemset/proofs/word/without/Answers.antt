use Rattle.std.proofs.Common.{arith}
use Rattle.itemset.proofs.Laws.{has_removed, has_unremoved}
use Rattle.itemset.proofs.word.without.Goals as goal

pub returns-then-d-ge64 : goal.returns-then-d-ge64
returns-then-d-ge64 c = has_unremoved c.args.word c.args.d (omega arith) (omega arith)

pub returns : goal.returns
returns c = has_removed c.args.word c.args.d (omega arith) (omega arith)
