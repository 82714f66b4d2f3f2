-- A type whose one arc leads from the first of its two states to the second: what is unlockable there.
use Rattle.std.proofs.Common.{◌≡◌, ℕ, refl, sym, ◌∙◌, ap, arith}
use Rattle.locking.specs.Lists.{Mem}
use Rattle.model.specs.Workload.{Workload, Arc, Way, stay, onward, Unlockable}

module _ (W : Workload) (t : ℕ) (first_second : Arc W t 0 1) (one_arc : (m s : ℕ) → Mem s (W.arcs t m) → (m ≡ 0) × (s ≡ 1)) where
  -- a way from the second state ends there
  from_second : {a b : ℕ} → Way W t a b → a ≡ 1 → b ≡ 1
  from_second (stay s) e = e
  from_second (onward s m r a w) e = absurd (let z = (one_arc s m a.1).0 in omega arith)

  -- a way to the first state begins there
  to_first : {a b : ℕ} → Way W t a b → b ≡ 0 → a ≡ 0
  to_first (stay s) e = e
  to_first (onward s m r a w) e = (one_arc s m a.1).0

  -- no more than the item of the first state
  pub pair_only : (d : ℕ) → Unlockable W t 1 d → d ≡ W.item t 0
  pair_only d u =
      let n = u.named_before in
      let r = to_first n.3 (one_arc n.0 1 n.2.1).0 in
      sym n.4 ∙ ap (W.item t) r

  -- and that one, if the second state names another
  pub pair_unlockable : ¬ (W.item t 1 ≡ W.item t 0) → Unlockable W t 1 (W.item t 0)
  pair_unlockable n =
      record {
        here = λ r w e. n (sym (ap (W.item t) (from_second w refl)) ∙ e);
        not_before = λ m a u. u m (stay m) (ap (W.item t) (one_arc m 1 a.1).0);
        named_before = (0, 0, first_second, stay 0, refl);
      }
