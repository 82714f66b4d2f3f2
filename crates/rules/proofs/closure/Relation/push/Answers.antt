use Rattle.std.proofs.Common.{◌≡◌, ℕ, ◌+◌, ◌<◌, Bool, true, sym, ◌∙◌, subst, inl, inr, arith}
use Rattle.std.proofs.lemmas.Bool.{both_ways, cases_eq, eq-eqb, not-true, or_left, or_right}
use Rattle.itemset.specs.Members.{holds}
use Rattle.rules.specs.Reach.{Converse, Joined, Pulls}
use Rattle.rules.proofs.Pushing.{Pushes, pushed_news, pushed_quiet, pushes_loud, pushes_none, pushes_quiet}
use Rattle.rules.proofs.closure.Relation.push.Goals as goal
use Rattle.rules.proofs.closure.Relation.push.Goals.{then-ordered, else-ordered, then-give, else-give}

pub loop-s-init : goal.loop-s-init
loop-s-init g c = pushes_none (Joined c.args.along.now.rows) c.args.self.now.rows c.empty-seen.result

pub loop-s-preserved : goal.loop-s-preserved
loop-s-preserved g c =
    let along = c.args.along.now.rows in
    let first = c.args.self.now.rows in
    let old = c.loop-s.self.rows in
    let new = c.give.new.self.rows in
    let s = c.loop-s.s in
    let later = c.insert.new.self in
    let after = c.if-ordered.ordered in
    let put : (m : ℕ) → m < s + 1 → holds later m ≡ true = λ m l. c.insert.ensures.inside (omega arith) m ∙ elim (cases_eq m s) [
      | inl e ↦ or_right _ _ (eq-eqb m s e)
      | inr ne ↦ or_left _ _ (c.loop-s.invariant.were m (omega arith))
    ] in
    let also : after ≡ true → (c.loop-s.ordered ≡ true) × ((m : ℕ) → Joined along s m → holds later m ≡ true → ⊥) =
    elim c.if-ordered.branch [
      | then-ordered w ↦ (λ e. (w.if-ordered.true, λ m a h. both_ways w.meet.result (not-true w.meet.result (sym w.ordered-is ∙ e)) (w.meet.ensures.1 (m, a, h))))
      | else-ordered w ↦ (λ e. absurd (both_ways c.loop-s.ordered w.if-ordered.false (sym w.ordered-is ∙ e)))
    ] in
    elim c.if-give.branch [
      | then-give w ↦ subst (λ (b : Bool). Pushes (Joined along) first new (s + 1) later b after) (sym w.news-is)
          (pushes_loud along first old new s c.loop-s.seen later put c.loop-s.news c.loop-s.ordered c.loop-s.invariant (omega arith) c.give.result c.give.ensures after also w.if-give.true)
      | else-give w ↦ subst (λ (b : Bool). Pushes (Joined along) first new (s + 1) later b after) (sym w.news-is)
          (pushes_quiet along first old new s c.loop-s.seen later put c.loop-s.news c.loop-s.ordered c.loop-s.invariant (omega arith) c.give.result c.give.ensures after also w.if-give.false)
    ]

pub returns-then-news : goal.returns-then-news
returns-then-news g c =
    pushed_news (Joined c.args.along.now.rows) c.args.self.now.rows c.loop-s.self.rows c.args.count c.loop-s.seen c.loop-s.news c.loop-s.ordered (λ s m j. (c.requires.within s m j).0)
    (subst (λ (k : ℕ). Pushes (Joined c.args.along.now.rows) c.args.self.now.rows c.loop-s.self.rows k c.loop-s.seen c.loop-s.news c.loop-s.ordered) (omega arith) c.loop-s.invariant)
    c.if-news.true

pub returns-else-news : goal.returns-else-news
returns-else-news g c =
    subst (λ (b : Bool). Pulls (Converse (Joined c.args.along.now.rows)) c.args.self.now.rows c.loop-s.self.rows b) (sym c.if-news.false)
    (pushed_quiet (Joined c.args.along.now.rows) c.args.self.now.rows c.loop-s.self.rows c.args.count c.loop-s.seen c.loop-s.news c.loop-s.ordered (λ s m j. (c.requires.within s m j).0)
    (subst (λ (k : ℕ). Pushes (Joined c.args.along.now.rows) c.args.self.now.rows c.loop-s.self.rows k c.loop-s.seen c.loop-s.news c.loop-s.ordered) (omega arith) c.loop-s.invariant)
    c.if-news.false)
