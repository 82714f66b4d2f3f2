-- The rules of a workload, out of a truncation, which says only that they have a proof:
-- each rule is decidable, or has one proof at most.
use mathlib.Core.Path.{◌≡◌, refl, sym, subst}
use mathlib.Core.List.{List, [], ◌∷◌}
use mathlib.Core.Logic.{◌⊎◌, inl, inr, ∥∥₁_elim, ∥∥₁_map}
use mathlib.Core.HLevel.{⊥_prop, ¬_prop, Π_prop, ×_prop, Σ_prop_path}
use Prim.Native.Nat.{ℕ, zero, suc, ◌<◌}
use native.Mathlib.Omega.{arith}
use native.Mathlib.Bridge.{le_prop}
use native.Mathlib.Nat.{ℕ_set}
use native.Mathlib.Decide.{ℕ_discrete, dec_lt}
use Rattle.model.specs.Workload.{Workload, Above, self, over, Arc, Way, Terminal, WellFormed}
use Rattle.model.proofs.Ways.{dec_and, dec_iff, dec_some, dec_way, way_state}

-- what is decidable comes out of a truncation
pub told_out : {A : Type 0} → Dec A → ∥ A ∥₁ → A
told_out (yes a) t = a
told_out (no n) t = absurd (∥∥₁_elim t ⊥_prop n)

-- the lowest number of which P holds
Least : (ℕ → Type 0) → Type 0
Least P = (n : ℕ) × (P n × ((k : ℕ) → k < n → ¬ P k))

least_prop : (P : ℕ → Type 0) → ((n : ℕ) → IsProp (P n)) → IsProp (Least P)
unfolding Least
least_prop P h u v = Σ_prop_path (λ n. ×_prop (h n) (Π_prop (λ k. Π_prop (λ i. ¬_prop)))) {u = u} {v = v} same
  where
    same : u.0 ≡ v.0
    same = elim (dec_lt u.0 v.0) [
      | yes i ↦ absurd (v.1.1 u.0 i u.1.0)
      | no i ↦ elim (dec_lt v.0 u.0) [ yes k ↦ absurd (u.1.1 v.0 k v.1.0) | no k ↦ omega arith ]
    ]

least_at : (P : ℕ → Type 0) → ((n : ℕ) → Dec (P n)) → (n : ℕ) → P n → Least P
unfolding Least
least_at P d n p = elim (upto n) [ inl l ↦ l | inr f ↦ (n, (p, f)) ]
  where
    upto : (n : ℕ) → ((m : ℕ) × (P m × ((k : ℕ) → k < m → ¬ P k))) ⊎ ((k : ℕ) → k < n → ¬ P k)
    upto zero = inr (λ k i. absurd (omega arith))
    upto (suc n) = elim (upto n) [
      | inl l ↦ inl l
      | inr f ↦ elim (d n) [
        | yes a ↦ inl (n, (a, f))
        | no b ↦ inr (λ k i. elim (ℕ_discrete k n) [ yes e ↦ (λ a. b (subst P e a)) | no g ↦ f k (omega arith) ])
      ]
    ]

module _ (W : Workload) where
  -- n steps up from d
  up_by : ℕ → ℕ → ℕ
  up_by zero d = d
  up_by (suc n) d = up_by n (W.up d)

  steps_up : {a d : ℕ} → a ≡ W.top → Above W a d → (n : ℕ) × (up_by n d ≡ W.top)
  unfolding up_by
  steps_up e self = (0, e)
  steps_up e (over d n g) = let s = steps_up e g in (suc s.0, s.1)

  climbed : (n d : ℕ) → up_by n d ≡ W.top → ((k : ℕ) → k < n → ¬ (up_by k d ≡ W.top)) → Above W W.top d
  unfolding up_by
  climbed zero d e f = subst (Above W W.top) (sym e) self
  climbed (suc n) d e f = over d (f 0 (omega arith)) (climbed n (W.up d) e (λ k i. f (suc k) (omega arith)))

  pub above_out : (d : ℕ) → ∥ Above W W.top d ∥₁ → Above W W.top d
  unfolding Least
  above_out d t =
      let P : ℕ → Type 0 = λ n. up_by n d ≡ W.top in
      let l : Least P = ∥∥₁_elim t (least_prop P (λ n. ℕ_set _ _))
      (λ g. let s = steps_up refl g in least_at P (λ n. ℕ_discrete (up_by n d) W.top) s.0 s.1) in
      climbed l.0 d l.1.0 l.1.1

  dec_end : (l : List ℕ) → Dec (l ≡ [])
  dec_end [] = yes refl
  dec_end (x ∷ xs) = no (λ e. let z : ◌≡◌ {A = ℕ} 0 1 = cc in absurd (omega arith))

  pub formed_out : ∥ WellFormed W ∥₁ → WellFormed W
  formed_out t =
      record {
        top_item = ∥∥₁_elim t le_prop (λ F. F.top_item);
        up_item = λ d i n. ∥∥₁_elim t le_prop (λ F. F.up_item d i n);
        tree = λ d i. above_out d (∥∥₁_map t (λ F. F.tree d i));
        first_state = λ y i. ∥∥₁_elim t le_prop (λ F. F.first_state y i);
        names_item = λ y s i k. ∥∥₁_elim t le_prop (λ F. F.names_item y s i k);
        names_code = λ y s i k. ∥∥₁_elim t le_prop (λ F. F.names_code y s i k);
        leads = leads;
        reached = λ y s i k. told_out (dec_way W y (λ m r a. leads y m r i a) 0 s) (∥∥₁_map t (λ F. F.reached y s i k));
        ending = λ y s i k. ending_out y s i k;
      }
    where
      leads : (y m s : ℕ) → y < W.types → Arc W y m s → s < W.states y
      leads y m s i a = ∥∥₁_elim t le_prop (λ F. F.leads y m s i a)

      ending_out : (y s : ℕ) → y < W.types → s < W.states y → (r : ℕ) × Way W y s r × Terminal W y r
      ending_out y s i k =
          told_out
          (dec_iff (λ h. (h.0, h.2.0, h.2.1)) (λ h. (h.0, way_state W y (λ m r a. leads y m r i a) h.1 k, (h.1, h.2)))
          (dec_some (λ r. Way W y s r × (W.arcs y r ≡ [])) (W.states y)
          (λ r j. dec_and (dec_way W y (λ m r a. leads y m r i a) s r) (dec_end (W.arcs y r)))))
          (∥∥₁_map t (λ F. F.ending y s i k))
