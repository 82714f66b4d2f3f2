-- What the sets that a step looks up mean for the rules of a step.
use Rattle.std.proofs.Common.{◌≡◌, ℕ, ◌<◌, Bool, true, false, ◌||◌, sym, ◌∙◌, inl, inr, arith}
use native.Mathlib.Decide.{dec_lt}
use Rattle.std.proofs.lemmas.Bool.{or_cases, or_left, or_right}
use Rattle.model.specs.Table.{Lowest, WithAll}
use Rattle.model.proofs.Job.{clash}

-- the done set with all of an unlockable set
pub with_all_of
    : (a u b : ℕ → Bool) (P : ℕ → Type 0) → ((x : ℕ) → (u x ≡ true → P x) × (P x → u x ≡ true)) → ((x : ℕ) → b x ≡ (a x || u x)) → WithAll a P b
with_all_of a u b P s h x = (
  λ e. elim (or_cases (a x) (u x) (sym (h x) ∙ e)) [ inl y ↦ inl y | inr y ↦ inr ((s x).0 y) ],
  λ e. elim e [ inl y ↦ h x ∙ or_left (a x) (u x) y | inr y ↦ h x ∙ or_right (a x) (u x) ((s x).1 y) ],
)

pub lowest_of : (held : ℕ → Bool) (d : ℕ) → held d ≡ true → ((x : ℕ) → x < d → held x ≡ false) → Lowest (λ x. held x ≡ true) d
lowest_of held d h l = (h, λ x y. elim (dec_lt x d) [ yes k ↦ absurd (clash y (l x k)) | no k ↦ omega arith ])
