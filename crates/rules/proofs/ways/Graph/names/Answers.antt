use Rattle.std.proofs.Common.{rules, arith}
use Rattle.rules.proofs.ways.Graph.names.Goals as goal

pub returns : goal.returns
returns c = λ s l. let t = c.from_fn.ensures s (omega arith) in search rules
