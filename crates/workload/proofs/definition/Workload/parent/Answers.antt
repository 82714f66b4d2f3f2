use Rattle.std.proofs.Common.{◌≡◌, ℕ, ◌<◌, List, length, get_or, vec_items, ap, ◌∙◌, inl, inr, arith}
use Rattle.rules.proofs.Formed.{top_marked}
use Rattle.std.proofs.lemmas.Bool.Decides.{eqb_tells}
use Rattle.workload.proofs.Uses.{well_formed}
use Rattle.workload.proofs.definition.Workload.parent.Goals as goal

pub returns : goal.returns
returns c =
    let w = c.args.self.now in
    let ps = vec_items w.parents in
    let d = c.args.d in
    let p = c.in_ok-parent.field-0.now in
    let h = c.in_ok-parent.ensures.lookup.3 in
    let same : c.deref.result.now ≡ ps = c.deref.ensures.value in
    let i : d < length ps = omega (arith, h.0, ap length same) in
    let e : p ≡ get_or ps d 0 = h.1 0 ∙ ap (λ (xs : List ℕ). get_or xs d 0) same in
    elim (eqb_tells p 255) [
      | inl k ↦ rw (c.then_some.ensures, k.0) (λ b. let u = (well_formed w).up_item d b.0 b.1 in omega (arith, w.items.1, w.parents.ok.0, k.1))
      | inr k ↦ rw (c.then_some.ensures, k.0) ((i, λ m. k.1 (e ∙ ap (λ (x : ℕ). get_or ps x 0) m ∙ top_marked ps (well_formed w).top_item)), e)
    ]
