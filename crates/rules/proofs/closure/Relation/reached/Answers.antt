use Rattle.std.proofs.Common.{arith}
use Rattle.itemset.proofs.Counting.{count_within, fewer}
use Rattle.rules.specs.Reach.{along}
use Rattle.rules.proofs.Reaching.{reaching_all, reaching_more, reaching_none}
use Rattle.rules.proofs.closure.Relation.reached.Goals as goal

pub loop-way-init : goal.loop-way-init
loop-way-init g c = reaching_none (along c.args.way c.args.self.now.rows) c.args.from

pub loop-way-smaller : goal.loop-way-smaller
loop-way-smaller g c =
    let old = c.loop-way.reached in
    let new = c.grow.new.set in
    let q = c.grow.ensures.loud c.loop-way-test.true in
    omega (arith, fewer new old c.grow.ensures.kept q.0 q.2 q.3 64 q.1, count_within new 64)

pub loop-way-preserved : goal.loop-way-preserved
loop-way-preserved g c = reaching_more c.loop-way.invariant (record { kept = c.grow.ensures.kept; only = c.grow.ensures.only })

pub returns : goal.returns
returns g c =
    reaching_all (along c.args.way c.args.self.now.rows) c.args.from c.grow.new.set
    (reaching_more c.loop-way.invariant (record { kept = c.grow.ensures.kept; only = c.grow.ensures.only })) (c.grow.ensures.quiet c.loop-way-test.false)
