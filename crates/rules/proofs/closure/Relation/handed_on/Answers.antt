use Rattle.std.proofs.Common.{arith}
use Rattle.std.proofs.lemmas.Bool.{both_ways}
use Rattle.rules.proofs.Gathering.{row_none}
use Rattle.rules.proofs.Pushing.{handed_more}
use Rattle.rules.proofs.Rows.{joined_within}
use Rattle.rules.proofs.closure.Relation.handed_on.Goals as goal

pub loop-s-init : goal.loop-s-init
loop-s-init g c = λ r l t. (λ h. absurd (both_ways _ (row_none g.row.N r c.empty.result t (c.empty.ensures t)) h), λ q. absurd (omega (arith, q.1)))

pub loop-s-preserved : goal.loop-s-preserved
loop-s-preserved g c = λ r l. handed_more c.args.along.now.rows c.args.self.now.rows c.loop-s.handed.rows c.give.new.self.rows c.loop-s.s c.give.result c.give.ensures r (c.loop-s.invariant r l)

pub returns : goal.returns
returns g c = λ r l t. (
  λ h. let q = (c.loop-s.invariant r l t).0 h in (q.0, q.2, q.3),
  λ q. (c.loop-s.invariant r l t).1 (q.0, omega (arith, joined_within c.args.self.now.rows q.0 t q.2), q.1, q.2),
)
