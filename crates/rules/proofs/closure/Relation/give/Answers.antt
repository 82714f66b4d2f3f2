use Rattle.std.proofs.Common.{Bool, sym, subst, arith}
use Rattle.rules.proofs.Members.{left_fewer}
use Rattle.rules.proofs.Pushing.{Giving, giving_all, giving_loud, giving_none, giving_quiet}
use Rattle.rules.proofs.closure.Relation.give.Goals as goal
use Rattle.rules.proofs.closure.Relation.give.Goals.{then-take_over, else-take_over}

pub loop-m-init : goal.loop-m-init
loop-m-init g c = giving_none c.args.self.now.rows c.args.numbers c.args.set

pub loop-m-smaller : goal.loop-m-smaller
loop-m-smaller g c = left_fewer c.args.numbers c.loop-m.rest c.remove.new.self c.in-Some.m c.loop-m.invariant.within c.in-Some.ensures.0 c.remove.ensures c.in-Some.ensures.2

pub take_over-requires : goal.take_over-requires
take_over-requires g c = (omega arith, c.requires c.in-Some.m (c.loop-m.invariant.within c.in-Some.m c.in-Some.ensures.0))

pub loop-m-preserved : goal.loop-m-preserved
loop-m-preserved g c =
    let first = c.args.self.now.rows in
    let old = c.loop-m.self.rows in
    let new = c.take_over.new.self.rows in
    elim c.if-take_over.branch [
      | then-take_over w ↦ subst (λ (b : Bool). Giving first new c.args.numbers c.remove.new.self c.args.set b) (sym w.news-is)
          (giving_loud first old new c.args.numbers c.loop-m.rest c.remove.new.self c.args.set c.in-Some.m c.loop-m.news c.loop-m.invariant c.in-Some.ensures.0 c.remove.ensures (omega arith) c.take_over.result c.take_over.ensures w.if-take_over.true)
      | else-take_over w ↦ subst (λ (b : Bool). Giving first new c.args.numbers c.remove.new.self c.args.set b) (sym w.news-is)
          (giving_quiet first old new c.args.numbers c.loop-m.rest c.remove.new.self c.args.set c.in-Some.m c.loop-m.news c.loop-m.invariant c.in-Some.ensures.0 c.remove.ensures (omega arith) c.take_over.result c.take_over.ensures w.if-take_over.false)
    ]

pub returns : goal.returns
returns g c = giving_all c.args.self.now.rows c.loop-m.self.rows c.args.numbers c.loop-m.rest c.args.set c.loop-m.news c.loop-m.invariant c.in_default.ensures
