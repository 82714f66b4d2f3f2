-- The ways and the sets of a workload are decidable.
use mathlib.Core.Path.{◌≡◌, refl, sym, subst}
use mathlib.Core.Logic.{◌⊎◌}
use mathlib.Core.Bool.{true}
use Prim.Native.Nat.{ℕ, ◌<◌}
use native.Mathlib.Decide.{ℕ_discrete, dec_lt}
use Rattle.model.specs.Workload.{Workload, Above, Arc, Way, stay, onward, WellFormed, Unreachable, Unlockable, Named}
use Rattle.model.specs.Workload.{LocalRoot, Local, LocalChild, LocalLeaf}
use Rattle.model.specs.Table.{Job, MayGo}
use Rattle.model.proofs.Ways as ways
use Rattle.model.proofs.Ways.{dec_and, dec_or, dec_not, dec_imp, dec_iff, dec_true, dec_some, dec_all}
use Rattle.model.proofs.Tree.{above?, local_item, root_one}
use Rattle.model.specs.Sound.{Good}

module _ (W : Workload) (F : WellFormed W) (t : ℕ) (ht : t < W.types) where
  leads_of : (m s : ℕ) → Arc W t m s → s < W.states t
  leads_of m s a = F.leads t m s ht a

  dec_arc : (m s : ℕ) → Dec (Arc W t m s)
  dec_arc m s = ways.dec_arc W t leads_of m s

  dec_way : (a b : ℕ) → Dec (Way W t a b)
  dec_way a b = ways.dec_way W t leads_of a b

  way_state : {a b : ℕ} → Way W t a b → a < W.states t → b < W.states t
  way_state w i = ways.way_state W t leads_of w i

  pub dec_unreachable : (s d : ℕ) → s < W.states t → Dec (Unreachable W t s d)
  dec_unreachable s d i =
      dec_iff (λ f r w e. f r (way_state w i) w e) (λ f r j. f r)
      (dec_all (λ r. Way W t s r → ¬ (W.item t r ≡ d)) (W.states t)
      (λ r j. dec_imp (dec_way s r) (dec_not (ℕ_discrete (W.item t r) d))))

  pub dec_unlockable : (s d : ℕ) → s < W.states t → Dec (Unlockable W t s d)
  dec_unlockable s d i =
      dec_iff make take
      (dec_and (dec_unreachable s d i)
      (dec_and (dec_all (λ m. Arc W t m s → ¬ Unreachable W t m d) (W.states t)
      (λ m j. dec_imp (dec_arc m s) (dec_not (dec_unreachable m d j))))
      (dec_some (λ m. Arc W t m s × ((r : ℕ) × (r < W.states t) × (Way W t r m × (W.item t r ≡ d)))) (W.states t)
      (λ m j. dec_and (dec_arc m s)
      (dec_some (λ r. Way W t r m × (W.item t r ≡ d)) (W.states t)
      (λ r k. dec_and (dec_way r m) (ℕ_discrete (W.item t r) d)))))))
    where
      Parts : Type 0
      Parts =
          Unreachable W t s d
          × (((m : ℕ) → m < W.states t → Arc W t m s → ¬ Unreachable W t m d)
          × ((m : ℕ) × (m < W.states t) × (Arc W t m s × ((r : ℕ) × (r < W.states t) × (Way W t r m × (W.item t r ≡ d))))))

      make : Parts → Unlockable W t s d
      make h =
          record {
            here = h.0;
            not_before = λ m a. h.1.0 m a.0 a;
            named_before = let n = h.1.1 in (n.0, n.2.1.0, n.2.0, n.2.1.2.0, n.2.1.2.1);
          }

      from_state : {r m : ℕ} → Way W t r m → m < W.states t → r < W.states t
      from_state (stay x) j = j
      from_state (onward x y z e w) j = e.0

      take : Unlockable W t s d → Parts
      take h =
          let n = h.named_before in (
            h.here,
            (
              λ m j a. h.not_before m a,
              (n.0, n.2.0, (n.2, (n.1, from_state n.3 n.2.0, (n.3, n.4)))),
            ),
          )

  pub dec_named : (d : ℕ) → Dec (Named W t d)
  dec_named d = dec_some (λ s. W.item t s ≡ d) (W.states t) (λ s i. ℕ_discrete (W.item t s) d)

  module _ (r : ℕ) (is_root : LocalRoot W t r) where
    pub dec_local : (d : ℕ) → Dec (Local W t d)
    dec_local d = elim (dec_lt d W.items) [
      | no f ↦ no (λ h. f (local_item W F t ht h))
      | yes i ↦ dec_iff
          (λ h.
          record {
            root = r;
            is_root = is_root;
            below_root = h.0;
            named = W.item t h.1.0;
            is_named = (h.1.0, h.1.1, refl);
            above_named = h.1.2;
          })
          (λ h. (
            subst (λ (x : ℕ). Above W x d) (root_one W F t ht h.is_root is_root) h.below_root,
            (h.is_named.0, h.is_named.1, subst (λ (x : ℕ). Above W d x) (sym h.is_named.2) h.above_named),
          ))
          (dec_and (above? W F r d (F.tree d i))
          (dec_some (λ s. Above W d (W.item t s)) (W.states t)
          (λ s k. above? W F d (W.item t s) (F.tree (W.item t s) (F.names_item t s ht k)))))
    ]

    pub dec_child : (d c : ℕ) → Dec (LocalChild W t d c)
    dec_child d c =
        dec_iff (λ h. record { inside = h.0; parent = h.1.0; not_top = h.1.1.0; right_below = h.1.1.1 })
        (λ h. (h.inside, (h.parent, (h.not_top, h.right_below))))
        (dec_and (dec_local c) (dec_and (dec_local d) (dec_and (dec_not (ℕ_discrete c W.top)) (ℕ_discrete (W.up c) d))))

    pub dec_leaf : (d : ℕ) → Dec (LocalLeaf W t d)
    dec_leaf d =
        dec_iff (λ h. record { inside = h.0; childless = λ c k. h.1 c (local_item W F t ht k.inside) k })
        (λ h. (h.inside, λ c i k. h.childless c k))
        (dec_and (dec_local d) (dec_all (λ c. ¬ LocalChild W t d c) W.items (λ c i. dec_not (dec_child d c))))

module _ (W : Workload) (F : WellFormed W) (r : ℕ) (J : Job) (G : Good W r J) where
  pub dec_may_go : (d : ℕ) → Dec (MayGo W J d)
  dec_may_go d =
      dec_iff
      (λ h. record {
        is_held = h.0;
        unneeded = h.1.0;
        passed = λ c k. h.1.1 c (local_item W F J.type G.type_ok k.inside) k;
      })
      (λ h. (h.is_held, (h.unneeded, λ c i k. h.passed c k)))
      (dec_and (dec_true (J.held d))
      (dec_and (dec_or (dec_true (J.done d)) (dec_not (dec_named W F J.type G.type_ok d)))
      (dec_all (λ c. LocalChild W J.type d c → (J.ever_locked c ≡ true) ⊎ (LocalLeaf W J.type c × (J.done c ≡ true)))
      W.items
      (λ c i. dec_imp (dec_child W F J.type G.type_ok r G.is_root d c)
      (dec_or (dec_true (J.ever_locked c))
      (dec_and (dec_leaf W F J.type G.type_ok r G.is_root c) (dec_true (J.done c))))))))

  pub held_item : (d : ℕ) → J.held d ≡ true → d < W.items
  held_item d e = local_item W F J.type G.type_ok (G.inside d (G.held_locked d e))
