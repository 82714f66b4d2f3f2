use Rattle.std.proofs.Common.{arith}
use Rattle.rules.proofs.Spreading.{lowest_of, takes_over}
use Rattle.rules.proofs.closure.Relation.take_over.Goals as goal

pub returns : goal.returns
returns g c =
    takes_over c.args.self.now.rows c.args.s c.args.set c.difference-news.result c.union.result (omega arith) c.difference-news.ensures c.union.ensures
    (lowest_of c.difference-news.result c.lowest.result c.lowest.ensures c.if-is_none.ensures)
