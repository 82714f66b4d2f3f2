use Rattle.std.proofs.Common.{ℕ, ◌≡◌, ◌==◌, true, false, not, get_or, ap, refl, sym, ◌∙◌, inl, inr}
use Rattle.std.proofs.lemmas.Bool.{and_from, and_parts, and_right, both_ways, cases_lt, eq-eqb, eqb-true, false_from_ne_true, not_from_false, not_from_true}
use Rattle.workload.specs.View.{view}
use Rattle.itemset.specs.Members.{holds, nothing}
use Rattle.jobs.proofs.Actives.{held_low}
use Rattle.itemset.proofs.Counting.{fewer}
use Rattle.jobs.proofs.Deciding.{IdleAndPassed, decides_going}
use Rattle.jobs.proofs.active.ActiveJob.lowest_going.Goals as goal

pub loop-d-init : goal.loop-d-init
loop-d-init c =
    let a = c.args.self.now in (
      decides_going (view a.workload.now) a.job.now c.plan-plan.result.now c.plan-plan.ensures (held_low a) c.difference-needed.result c.difference-idle.result c.intersection.result c.union-passed.result
          c.difference-needed.ensures c.difference-idle.ensures c.intersection.ensures c.union-passed.ensures,
      λ x h. h,
      λ x h. h.0,
    )

pub returns-then-is_subset : goal.returns-then-is_subset
returns-then-is_subset c =
    let d = c.in-Some.d in
    let left = c.loop-d.invariant in (
      (left.0 d).0 (left.1 d c.in-Some.ensures.0, c.is_subset.ensures.0 c.if-is_subset.true),
      λ x g. elim (cases_lt x d) [
        | inl l ↦ absurd (both_ways (holds c.loop-d.idle x) (c.in-Some.ensures.1 x l) (left.2 x ((left.0 x).1 g)))
        | inr l ↦ l
      ],
    )

stays : (c : goal.After-remove) (x : ℕ) → holds c.remove.new.self x ≡ true → holds c.loop-d.idle x ≡ true
stays c x h = (and_parts (holds c.loop-d.idle x) (not (x == c.in-Some.d)) (sym (c.remove.ensures x) ∙ h)).0

pub loop-d-smaller : goal.loop-d-smaller
loop-d-smaller c =
    let d = c.in-Some.d in
    let gone : holds c.remove.new.self d ≡ false = c.remove.ensures d ∙ and_right (holds c.loop-d.idle d) (not (d == d)) (not_from_true (d == d) (eq-eqb d d refl)) in
    fewer c.loop-d.idle c.remove.new.self (stays c) d c.in-Some.ensures.0 gone 64 c.in-Some.ensures.2

pub loop-d-preserved : goal.loop-d-preserved
loop-d-preserved c =
    let d = c.in-Some.d in
    let left = c.loop-d.invariant in
    let p = c.plan-plan.result.now in
    let other : (x : ℕ) → IdleAndPassed p c.difference-idle.result c.union-passed.result x → not (x == d) ≡ true =
    λ x f. not_from_false (x == d) (false_from_ne_true (x == d) (λ e. both_ways c.is_subset.result c.if-is_subset.false
    (c.is_subset.ensures.1 (λ k h. f.1 k (ap (λ y. holds (get_or p.children y nothing) k) (eqb-true x d e) ∙ h))))) in
    (left.0, λ x h. left.1 x (stays c x h), λ x f. c.remove.ensures x ∙ and_from (holds c.loop-d.idle x) (not (x == d)) (left.2 x f) (other x f))
