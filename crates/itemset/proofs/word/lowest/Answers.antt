use Rattle.std.proofs.Common.{arith}
use Rattle.itemset.proofs.Laws.{has_none, lowest_trailing}
use Rattle.itemset.proofs.word.lowest.Goals as goal

pub returns-then-word-eq0 : goal.returns-then-word-eq0
returns-then-word-eq0 c = λ e. rw c.if-word-eq0.true (has_none e)

pub returns : goal.returns
returns c = let l = lowest_trailing c.args.word (omega arith) (omega arith) in (l.member, l.least, l.below)
