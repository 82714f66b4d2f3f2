use Rattle.std.proofs.Common.{rules, arith}
use Rattle.rules.proofs.tree.LockTree.children_in.Goals as goal

pub returns : goal.returns
returns c = λ d l. let t = c.from_fn.ensures d (omega arith) in search rules
