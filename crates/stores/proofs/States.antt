-- A store's work is the model's.
use Rattle.std.proofs.Common.{◌≡◌, ℕ, zero, suc, ◌⊎◌, List, [], ◌∷◌, set, ℤ, unwrap_or, refl, ap, inl, inr}
use mathlib.Core.Option.{none, some}
use lib.ListN.{get_elem?}
use Rattle.model.specs.Table.{Kind}
use Rattle.stores.specs.Stores.{register_after, values_after}
use Rattle.stores.specs.Works.{WorksAt}

module _ {V : Type 0} (K : Kind V) where
  -- there is an item i, with what its act makes of the values and the register, or neither changes
  by_item
      : (code : ℕ) (operand p : ℤ) (old : List V) (i : ℕ)
      → ((v : V) × (get_elem? old i ≡ some v) × (values_after K.act old i code operand p ≡ set old i (K.act v code operand p).0) × (unwrap_or (register_after K.act old i code operand p) p ≡ (K.act v code operand p).1))
      ⊎ ((get_elem? old i ≡ none) × (values_after K.act old i code operand p ≡ old) × (unwrap_or (register_after K.act old i code operand p) p ≡ p))
  by_item code operand p [] i = inr (refl, refl, refl)
  by_item code operand p (v ∷ old) zero = inl (v, refl, refl, refl)
  by_item code operand p (v ∷ old) (suc i) =
      elim (by_item code operand p old i) [
        | inl r ↦ inl (r.0, r.1, ap (λ vs. v ∷ vs) r.2, r.3)
        | inr r ↦ inr (r.0, ap (λ vs. v ∷ vs) r.1, r.2)
      ]

  pub works_at
      : (item code : ℕ) (operand p q : ℤ) (old new : List V)
      → new ≡ values_after K.act old item code operand p → q ≡ unwrap_or (register_after K.act old item code operand p) p
      → WorksAt K item code operand old p new q
  works_at item code operand p q old new n e W t s ei ec eo =
      elim (by_item (W.code t s) (W.operand t s) p old (W.item t s)) [
        | inl r ↦ inl (record { found = r.0; there = r.1; value = cc; register = cc })
        | inr r ↦ inr (r.0, (cc), (cc))
      ]
