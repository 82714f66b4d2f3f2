use Rattle.std.proofs.Common.{◌≡◌, ℕ, ◌+◌, Bool, true, sym, ◌∙◌, subst, arith}
use Rattle.std.proofs.lemmas.Bool.{both_ways}
use Rattle.itemset.specs.Members.{holds}
use Rattle.rules.specs.Reach.{Joined, Pulls}
use Rattle.rules.proofs.Spreading.{Turns, pulled_news, pulled_quiet, turns_loud, turns_none, turns_quiet, turn_within}
use Rattle.rules.proofs.closure.Relation.pull.Goals as goal
use Rattle.rules.proofs.closure.Relation.pull.Goals.{then-ordered, else-ordered, then-take_over, else-take_over}

pub loop-k-init : goal.loop-k-init
loop-k-init g c = turns_none (Joined c.args.along.now.rows) c.args.self.now.rows c.args.order c.args.count c.empty-seen.result c.empty-seen.ensures

pub loop-k-preserved : goal.loop-k-preserved
loop-k-preserved g c =
    let along = c.args.along.now.rows in
    let first = c.args.self.now.rows in
    let old = c.loop-k.self.rows in
    let new = c.take_over.new.self.rows in
    let n = c.args.count in
    let k = c.loop-k.k in
    let s = c.turn-s.result in
    let after = c.if-ordered.ordered in
    let also : after ≡ true → (c.loop-k.ordered ≡ true) × ((m : ℕ) → Joined along s m → holds c.loop-k.seen m ≡ true) =
    elim c.if-ordered.branch [
      | then-ordered w ↦ (λ e. (w.if-ordered.true, w.is_subset-ordered.ensures.0 (sym w.ordered-is ∙ e)))
      | else-ordered w ↦ (λ e. absurd (both_ways c.loop-k.ordered w.if-ordered.false (sym w.ordered-is ∙ e)))
    ] in
    elim c.if-take_over.branch [
      | then-take_over w ↦ subst (λ (b : Bool). Turns (Joined along) first new c.args.order n (k + 1) c.insert.new.self b after) (sym w.news-is)
          (turns_loud along first old new c.args.order n k s c.loop-k-test.true c.turn-s.ensures c.loop-k.seen c.insert.new.self (c.insert.ensures.inside (omega (arith, turn_within c.args.order n k c.loop-k-test.true, c.turn-s.ensures))) c.loop-k.news c.loop-k.ordered c.loop-k.invariant (omega arith)
          c.held_by.result c.held_by.ensures c.take_over.result c.take_over.ensures after also w.if-take_over.true)
      | else-take_over w ↦ subst (λ (b : Bool). Turns (Joined along) first new c.args.order n (k + 1) c.insert.new.self b after) (sym w.news-is)
          (turns_quiet along first old new c.args.order n k s c.loop-k-test.true c.turn-s.ensures c.loop-k.seen c.insert.new.self (c.insert.ensures.inside (omega (arith, turn_within c.args.order n k c.loop-k-test.true, c.turn-s.ensures))) c.loop-k.news c.loop-k.ordered c.loop-k.invariant (omega arith)
          c.held_by.result c.held_by.ensures c.take_over.result c.take_over.ensures after also w.if-take_over.false)
    ]

pub returns-then-news : goal.returns-then-news
returns-then-news g c =
    pulled_news (Joined c.args.along.now.rows) c.args.self.now.rows c.loop-k.self.rows c.args.order c.args.count c.loop-k.seen c.loop-k.news c.loop-k.ordered c.requires.within
    (subst (λ (k : ℕ). Turns (Joined c.args.along.now.rows) c.args.self.now.rows c.loop-k.self.rows c.args.order c.args.count k c.loop-k.seen c.loop-k.news c.loop-k.ordered) (omega arith) c.loop-k.invariant)
    c.if-news.true

pub returns-else-news : goal.returns-else-news
returns-else-news g c =
    subst (λ (b : Bool). Pulls (Joined c.args.along.now.rows) c.args.self.now.rows c.loop-k.self.rows b) (sym c.if-news.false)
    (pulled_quiet (Joined c.args.along.now.rows) c.args.self.now.rows c.loop-k.self.rows c.args.order c.args.count c.loop-k.seen c.loop-k.news c.loop-k.ordered c.requires.within
    (subst (λ (k : ℕ). Turns (Joined c.args.along.now.rows) c.args.self.now.rows c.loop-k.self.rows c.args.order c.args.count k c.loop-k.seen c.loop-k.news c.loop-k.ordered) (omega arith) c.loop-k.invariant)
    c.if-news.false)
