use Rattle.std.proofs.Common.{◌≡◌, ℕ, ◌+◌, Bool, true, false, get_or, sym, ap, ◌∙◌, subst, arith}
use Rattle.std.specs.Fn.{FnReturnsAt}
use Rattle.std.proofs.lemmas.Fn.{says_at}
use Rattle.std.proofs.lemmas.List.{get_or_read}
use Rattle.itemset.specs.declared.ItemSet.{ItemSet}
use Rattle.itemset.specs.Members.{holds}
use Rattle.rules.proofs.Placed.{Tested, tested_insert, tested_skip}
use Rattle.rules.proofs.places.places.Goals as goal
use Rattle.rules.proofs.places.places.Goals.{then-test, else-test}

pub loop-s-preserved : goal.loop-s-preserved
loop-s-preserved g c =
    let s = c.loop-s.s in
    let list = c.args.list.now in
    let Q : ℕ → Bool → Type 0 = λ k b. (x : g.row.T.Denot) → FnReturnsAt g.F.Fn c.args.test (get_or list k x) b in
    let told : (b : Bool) → c.test.result ≡ b → Q s b = λ b e x.
    subst (λ y. FnReturnsAt g.F.Fn c.args.test y b) (get_or_read list s c.index-list-s.result c.loop-s-test.true c.index-list-s.is x) (says_at g.F.Fn c.test.ensures e) in
    elim c.if-test.branch [
      | then-test w ↦
          tested_insert Q c.loop-s.found c.if-test.found s c.loop-s.invariant (λ m. ap (λ (x : ItemSet). holds x m) w.found-is ∙ w.insert.ensures.inside (omega arith) m) (told true w.if-test.true)
      | else-test w ↦
          subst (λ (x : ItemSet). Tested Q x (s + 1)) (sym w.found-is) (tested_skip Q c.loop-s.found s c.loop-s.invariant (told false w.if-test.false))
    ]

pub returns-clause-tested : goal.returns-clause-tested
returns-clause-tested g c = λ s x l. c.loop-s.invariant.tested s (omega arith) x
