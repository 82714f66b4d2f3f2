use Rattle.std.proofs.Common.{◌≡◌, ℕ, ◌⊎◌, true, Decides, ap, sym, ◌∙◌, inl, inr, arith}
use Rattle.std.proofs.lemmas.Bool.{or_cases, or_left, or_right}
use Rattle.itemset.specs.declared.ItemSet.{ItemSet}
use Rattle.itemset.specs.Members.{holds}
use Rattle.rules.specs.Reach.{Joined}
use Rattle.rules.proofs.Members.{left_fewer}
use Rattle.rules.proofs.Rows.{joined_within}
use Rattle.rules.proofs.Spreading.{gathers_more}
use Rattle.rules.proofs.closure.Relation.held_by.Goals as goal
use Rattle.rules.proofs.closure.Relation.held_by.Goals.{then-m, else-m}

pub loop-m-smaller : goal.loop-m-smaller
loop-m-smaller g c = left_fewer c.args.set c.loop-m.rest c.remove.new.self c.in-Some.m c.loop-m.invariant.within c.in-Some.ensures.0 c.remove.ensures c.in-Some.ensures.2

pub loop-m-preserved : goal.loop-m-preserved
loop-m-preserved g c =
    let rows = c.args.self.now.rows in
    let took : (t : ℕ) → Decides (holds c.if-m.held t) ((holds c.loop-m.held t ≡ true) ⊎ Joined rows c.in-Some.m t) =
    λ t. elim c.if-m.branch [
      | then-m w ↦ (let e = ap (λ (x : ItemSet). holds x t) w.held-is ∙ w.union-held.ensures t in (
        λ h. elim (or_cases _ _ (sym e ∙ h)) [ inl a ↦ inl a | inr b ↦ inr b ],
        λ h. e ∙ elim h [ inl a ↦ or_left _ _ a | inr b ↦ or_right _ _ b ],
      ))
      | else-m w ↦ (let e = ap (λ (x : ItemSet). holds x t) w.held-is in (
        λ h. inl (sym e ∙ h),
        λ h. elim h [ inl a ↦ e ∙ a | inr b ↦ absurd (omega (arith, joined_within rows c.in-Some.m t b)) ],
      ))
    ] in
    gathers_more rows c.args.set c.loop-m.rest c.remove.new.self c.loop-m.held c.if-m.held c.in-Some.m c.loop-m.invariant c.in-Some.ensures.0 c.remove.ensures took
