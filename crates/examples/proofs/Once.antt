-- The same calls on a new table over the same values have the same answers, and come to the same table.
use Rattle.std.proofs.Common.{◌≡◌, List, ◌∷◌, refl, sym, ◌∙◌, subst, ap₂}
use mathlib.Core.Path.{fun_ext}
use Rattle.model.specs.Journal.{Event, Reached, new, New, next}
use Rattle.model.specs.Table.{Kind, Table, Call, Answer, Moves}
use Rattle.model.specs.Workload.{Workload, WellFormed}
use Rattle.model.proofs.Main.{table_stands_lem}
use Rattle.examples.specs.Listing.{calls}

module _ {V : Type 0} (W : Workload) (F : WellFormed W) (K : Kind V) (first : List V) where
  new_once : (m n : Table V) → New first m → New first n → m ≡ n
  new_once m n a b =
      λ i. record { values = (a.values ∙ sym b.values) i; places = (fun_ext (λ p. a.empty p ∙ sym (b.empty p))) i }

  pub answered_once
      : (es es' : List Event) (m m' : Table V) → Reached W K first es m → Reached W K first es' m' → calls es ≡ calls es'
      → (es ≡ es') × (m ≡ m')
  answered_once _ _ _ _ (new m a) (new m' b) e = (refl, new_once m m' a b)
  answered_once _ _ _ _ (new m a) (next es' m' n' c' x' r' v') e = absurd (cc)
  answered_once _ _ _ _ (next es m n c x r v) (new m' b) e = absurd (cc)
  answered_once _ _ _ _ (next es m n c x r v) (next es' m' n' c' x' r' v') e =
      let same_call : c ≡ c' = cc in
      let before = answered_once es es' m m' r r' (cc) in
      let moved =
      subst (λ (y : Call). Moves W K m y x' n') (sym same_call) (subst (λ (y : Table V). Moves W K y c' x' n') (sym before.1) v') in
      let once = (table_stands_lem V W F K first es m r).one_answer c x x' n n' v moved in (
        ap₂ (λ (z : Event) (zs : List Event). z ∷ zs)
            (ap₂ (λ (y : Call) (a : Answer). record { call = y; answer = a }) same_call once.0) before.0,
        once.1,
      )
