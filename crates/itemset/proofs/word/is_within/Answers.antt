use Rattle.std.proofs.Common.{◌≡◌, Bool, true, false, not, ◌&&◌, sym, ◌∙◌, inl, inr}
use Rattle.std.proofs.lemmas.Bool.{and_cases, and_left, and_right, both_ways, cases_Bool, not-false, not_from_true}
use Rattle.itemset.specs.Members.{has}
use Rattle.itemset.proofs.word.is_within.Goals as goal

taken : (x y : Bool) → (x && not y) ≡ false → x ≡ true → y ≡ true
taken x y e h = elim (and_cases x (not y) e) [ inl f ↦ absurd (both_ways x f h) | inr f ↦ not-false y f ]

left : (x y : Bool) → (x ≡ true → y ≡ true) → (x && not y) ≡ false
left x y f = elim (cases_Bool x) [ inl h ↦ and_right x (not y) (not_from_true y (f h)) | inr h ↦ and_left x (not y) h ]

pub returns : goal.returns
returns c =
    let a = c.args.a in
    let b = c.args.b in (
      λ e k h. taken (has a k) (has b k) (sym (c.first_only.ensures k) ∙ c.is_none.ensures.0 e k) h,
      λ f. c.is_none.ensures.1 (λ k. c.first_only.ensures k ∙ left (has a k) (has b k) (f k)),
    )
