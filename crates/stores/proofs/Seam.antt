-- Item i of two joined lists, and an act there: in the first list, in the second, or nowhere.
use Rattle.std.proofs.Common.{◌≡◌, ℕ, ◌-◌, List, ◌++◌, length, drop, ℤ, Some, None, sym, ap, ◌∙◌, arith, length-take}
use Rattle.std.specs.List.{slice_get}
use Rattle.std.proofs.lemmas.Option.{slice_get_past}
use Rattle.stores.specs.declared.joined.Part.TheVariants.{First, Second}
use Rattle.stores.specs.Parts.{Stands}
use Rattle.stores.specs.Stores.{counted, values_after}
use Rattle.stores.proofs.Acts.{nth_take, nth_left, nth_right, after_take, after_drop, after_left, after_right}

module _ {V : Type 0} (xs ys : List V) (i front : ℕ) (seam : front ≡ length xs) where
  pub in_first : Stands i front (Some First) → slice_get (counted (xs ++ ys)) i ≡ slice_get xs i
  in_first at = nth_take 4096 (xs ++ ys) i at.0 ∙ nth_left xs ys i (omega arith)

  pub in_second : (j : ℕ) → Stands i front (Some (Second j)) → slice_get (counted (xs ++ ys)) i ≡ slice_get ys j
  in_second j at = nth_take 4096 (xs ++ ys) i at.0 ∙ nth_right xs ys i (omega arith) ∙ ap (slice_get ys) (omega arith)

  pub in_neither : Stands i front None → slice_get (counted (xs ++ ys)) i ≡ None
  in_neither at = slice_get_past (counted (xs ++ ys)) i (simp length-take (omega arith))

  module _ (act : V → ℕ → ℤ → ℤ → V × ℤ) (code : ℕ) (operand register : ℤ) where
    abbrev after : List V → ℕ → List V
    after vs k = values_after act vs k code operand register

    pub after_first : Stands i front (Some First) → counted (after xs i ++ ys) ≡ after (counted (xs ++ ys)) i
    after_first at =
        ap counted (sym (after_left act code operand register xs ys i (omega arith)))
        ∙ after_take act code operand register 4096 (xs ++ ys) i at.0

    pub after_second : (j : ℕ) → Stands i front (Some (Second j)) → counted (xs ++ after ys j) ≡ after (counted (xs ++ ys)) i
    after_second j at =
        let there : j ≡ i - length xs = omega arith in
        ap (λ k. counted (xs ++ after ys k)) there
        ∙ ap counted (sym (after_right act code operand register xs ys i (omega arith)))
        ∙ after_take act code operand register 4096 (xs ++ ys) i at.0

    -- what comes after the first 4,096 values stays
    pub past_first : Stands i front (Some First) → drop 4096 (after xs i ++ ys) ≡ drop 4096 (xs ++ ys)
    past_first at =
        ap (drop 4096) (sym (after_left act code operand register xs ys i (omega arith)))
        ∙ after_drop act code operand register 4096 (xs ++ ys) i at.0

    pub past_second : (j : ℕ) → Stands i front (Some (Second j)) → drop 4096 (xs ++ after ys j) ≡ drop 4096 (xs ++ ys)
    past_second j at =
        let there : j ≡ i - length xs = omega arith in
        ap (λ k. drop 4096 (xs ++ after ys k)) there
        ∙ ap (drop 4096) (sym (after_right act code operand register xs ys i (omega arith)))
        ∙ after_drop act code operand register 4096 (xs ++ ys) i at.0
