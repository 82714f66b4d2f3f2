-- A loop that goes through the numbers of a set and takes each out of what is left of it.
use Rattle.std.proofs.Common.{◌≡◌, ℕ, ◌<◌, Bool, true, false, not, ◌&&◌, eqb, ◌⊎◌, sym, refl, ap, ◌∙◌, inl, inr}
use Rattle.std.proofs.lemmas.Bool.{cases_eq, and_left, and_parts, and_right, eq-eqb, ne_eqb, not_from_true}
use Rattle.itemset.proofs.Counting.{count, fewer}
use Rattle.itemset.specs.declared.ItemSet.{ItemSet}
use Rattle.itemset.specs.Members.{holds}

-- the loop has come past m
pub record Done (set rest : ItemSet) (m : ℕ) : Type 0 where
  pub inside : holds set m ≡ true
  pub gone : holds rest m ≡ false

module _ (set rest left : ItemSet) (d : ℕ) (within : (m : ℕ) → holds rest m ≡ true → holds set m ≡ true) (next : holds rest d ≡ true)
    (e : (m : ℕ) → holds left m ≡ (holds rest m && not (eqb m d))) where
  left_in : (m : ℕ) → holds left m ≡ true → holds rest m ≡ true
  left_in m h = (and_parts (holds rest m) (not (eqb m d)) (sym (e m) ∙ h)).0

  taken : holds left d ≡ false
  taken = e d ∙ and_right (holds rest d) (not (eqb d d)) (not_from_true (eqb d d) (eq-eqb d d refl))

  pub left_within : (m : ℕ) → holds left m ≡ true → holds set m ≡ true
  left_within m h = within m (left_in m h)

  pub left_fewer : d < 64 → count left 64 < count rest 64
  left_fewer l = fewer rest left left_in d next taken 64 l

  pub done_now : Done set left d
  done_now = record { inside = within d next; gone = taken }

  pub done_still : (m : ℕ) → Done set rest m → Done set left m
  done_still m q = record { inside = q.inside; gone = e m ∙ and_left (holds rest m) (not (eqb m d)) q.gone }

  pub done_before : (m : ℕ) → Done set left m → Done set rest m ⊎ (m ≡ d)
  done_before m q = elim (cases_eq m d) [
    | inl s ↦ inr s
    | inr ne ↦ inl (record { inside = q.inside; gone = and_true (holds rest m) (sym (e m ∙ ap (λ (b : Bool). holds rest m && not b) (ne_eqb m d ne)) ∙ q.gone) })
  ]
    where
      and_true : (b : Bool) → (b && true) ≡ false → b ≡ false
      and_true true h = h
      and_true false h = refl
