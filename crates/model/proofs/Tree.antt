-- Facts of the lock tree: ways up, depths and local roots.
use mathlib.Core.Path.{◌≡◌, refl, sym, subst, ap}
use mathlib.Core.Logic.{◌⊎◌, inl, inr}
use Prim.Native.Nat.{ℕ, zero, suc, ◌≤◌, ◌<◌}
use native.Mathlib.Omega.{arith}
use native.Mathlib.Decide.{ℕ_discrete, dec_lt}
use Rattle.model.specs.Workload.{Workload, Above, self, over, WellFormed, Named, LocalRoot, Local}

module _ {W : Workload} where
  pub above_trans : {a b d : ℕ} → Above W a b → Above W b d → Above W a d
  above_trans h self = h
  above_trans h (over d n g) = over d n (above_trans h g)

  -- two items above one item: one of them is above the other
  pub above_chain : {a b d : ℕ} → Above W a d → Above W b d → Above W a b ⊎ Above W b a
  above_chain h self = inl h
  above_chain self (over d n g) = inr (over d n g)
  above_chain (over d n h) (over e k g) = above_chain h g

  -- how many items a way up passes
  pub rise : {a d : ℕ} → Above W a d → ℕ
  rise self = 0
  rise (over d n h) = suc (rise h)

  -- the way up to the top is one
  pub rise_one : {a b d : ℕ} → a ≡ W.top → b ≡ W.top → (g : Above W a d) (h : Above W b d) → rise g ≡ rise h
  unfolding rise
  rise_one p q self self = refl
  rise_one p q self (over d n h) = absurd (n p)
  rise_one p q (over d n g) self = absurd (n q)
  rise_one p q (over d n g) (over e k h) = ap suc (rise_one p q g h)

  -- an item that is not the upper end of a way has its parent on the way
  pub above_up : {a d : ℕ} → Above W a d → ¬ (a ≡ d) → Above W a (W.up d) × ¬ (d ≡ W.top)
  above_up self n = absurd (n refl)
  above_up (over d k h) n = (h, k)

  -- a way that is not empty has a first item below its upper end
  pub above_down : {a d : ℕ} → Above W a d → ¬ (a ≡ d) → (c : ℕ) × (W.up c ≡ a) × Above W c d × ¬ (c ≡ W.top)
  above_down self n = absurd (n refl)
  above_down {a} (over d k h) n = elim (ℕ_discrete a (W.up d)) [
    | yes e ↦ (d, sym e, self, k)
    | no f ↦ (let r = above_down h f in (r.0, r.1, over d k r.2, r.3))
  ]

-- m is the deepest item above a and b
record Meet (W : Workload) (a b m : ℕ) : Type 0 where
  left : Above W m a
  right : Above W m b
  most : (x : ℕ) → Above W x a → Above W x b → Above W x m

-- r is the deepest item above those that the first k states name
record RootOf (W : Workload) (t k r : ℕ) : Type 0 where
  common : (s : ℕ) → s < k → Above W r (W.item t s)
  most : (a : ℕ) → ((s : ℕ) → s < k → Above W a (W.item t s)) → Above W a r
  item : r < W.items

module _ (W : Workload) (F : WellFormed W) where
  pub depth : ℕ → ℕ
  depth d = elim (dec_lt d W.items) [ yes h ↦ rise (F.tree d h) | no f ↦ 0 ]

  pub above_item : {a d : ℕ} → Above W a d → d < W.items → a < W.items
  above_item self h = h
  above_item (over d n g) h = above_item g (F.up_item d h n)

  pub depth_is : (d : ℕ) → d < W.items → (g : Above W W.top d) → depth d ≡ rise g
  unfolding depth
  depth_is d h g = go (dec_lt d W.items)
    where
      go : (c : Dec (d < W.items)) → elim c [ yes h ↦ rise (F.tree d h) | no f ↦ 0 ] ≡ rise g
      go (yes k) = rise_one refl refl (F.tree d k) g
      go (no f) = absurd (f h)

  pub depth_up : (d : ℕ) → d < W.items → ¬ (d ≡ W.top) → depth (W.up d) < depth d
  unfolding rise
  depth_up d h n =
      let u = F.up_item d h n in
      let g = F.tree (W.up d) u in
      let a : depth (W.up d) ≡ rise g = depth_is (W.up d) u g in
      let b : depth d ≡ suc (rise g) = depth_is d h (over d n g) in
      omega arith

  -- an item is not deeper than those below it, and less deep if it is another
  pub above_depth : {a d : ℕ} → Above W a d → d < W.items → depth a ≤ depth d
  above_depth self h = omega arith
  above_depth (over d n g) h =
      let i = above_depth g (F.up_item d h n) in
      let k = depth_up d h n in
      omega arith

  pub above_same : {a d : ℕ} → Above W a d → Above W d a → d < W.items → a ≡ d
  above_same self g h = refl
  above_same {a} (over d n f) g h =
      let i = above_depth f (F.up_item d h n) in
      let j = depth_up d h n in
      let k = above_depth g (above_item (over d n f) h) in
      absurd (omega arith)

  -- whether an item lies above another is decidable
  pub above? : (a d : ℕ) → Above W W.top d → Dec (Above W a d)
  above? a d g = go refl g
    where
      -- the upper end of the way is the top
      go : {b e : ℕ} → b ≡ W.top → Above W b e → Dec (Above W a e)
      go {b} q self = elim (ℕ_discrete a b) [
        | yes e ↦ yes (subst (λ (x : ℕ). Above W a x) e self)
        | no f ↦ no (λ h. (above_up h f).1 q)
      ]
      go q (over e n h) = elim (ℕ_discrete a e) [
        | yes k ↦ yes (subst (λ (x : ℕ). Above W a x) k self)
        | no f ↦ elim (go q h) [ yes u ↦ yes (over e n u) | no v ↦ no (λ u. v (above_up u f).0) ]
      ]

  meet : (a b : ℕ) → Above W W.top a → Above W W.top b → (m : ℕ) × Meet W a b m
  meet a b f g = go refl f
    where
      go : {c a : ℕ} → c ≡ W.top → Above W c a → (m : ℕ) × Meet W a b m
      go {c} q self = (c, record { left = self; right = subst (λ (x : ℕ). Above W x b) (sym q) g; most = λ x h k. h })
      go q (over a n h) = elim (above? a b g) [
        | yes u ↦ (a, record { left = self; right = u; most = λ x i j. i })
        | no v ↦ (let r = go q h in (
          r.0,
          record {
            left = over a n r.1.left;
            right = r.1.right;
            most = λ x i j. r.1.most x (above_up i (λ e. v (subst (λ (y : ℕ). Above W y b) e j))).0 j;
          },
        ))
      ]

  module _ (t : ℕ) (ht : t < W.types) where
    root_of : (k : ℕ) → k < W.states t → (r : ℕ) × RootOf W t (suc k) r
    root_of zero h = (
      W.item t 0,
      record {
        common = λ s i. subst (λ (x : ℕ). Above W (W.item t 0) (W.item t x)) (omega arith) self;
        most = λ a f. f 0 (omega arith);
        item = F.names_item t 0 ht h;
      },
    )
    root_of (suc k) h =
        let r = root_of k (omega arith) in
        let m = meet r.0 (W.item t (suc k)) (F.tree r.0 r.1.item)
        (F.tree (W.item t (suc k)) (F.names_item t (suc k) ht h)) in (
          m.0,
          record {
            common = λ s i. elim (ℕ_discrete s (suc k)) [
              | yes e ↦ subst (λ (x : ℕ). Above W m.0 (W.item t x)) (sym e) m.1.right
              | no f ↦ above_trans m.1.left (r.1.common s (omega arith))
            ];
            most = λ a f. m.1.most a (r.1.most a (λ s i. f s (omega arith))) (f (suc k) (omega arith));
            item = above_item m.1.left r.1.item;
          },
        )

    pub local_root : (r : ℕ) × LocalRoot W t r
    local_root = go (W.states t) refl (F.first_state t ht)
      where
        go : (k : ℕ) → W.states t ≡ k → 0 < k → (r : ℕ) × LocalRoot W t r
        go zero e h = absurd (omega arith)
        go (suc k) e h =
            let r = root_of k (omega arith) in (
              r.0,
              record {
                common = λ d n. subst (λ (x : ℕ). Above W r.0 x) n.2 (r.1.common n.0 (let i = n.1 in omega arith));
                deepest = λ a f. r.1.most a (λ s i. f (W.item t s) (s, (omega arith), refl));
              },
            )

    pub named_item : {d : ℕ} → Named W t d → d < W.items
    named_item n = subst (λ (x : ℕ). x < W.items) n.2 (F.names_item t n.0 ht n.1)

    pub first_named : Named W t (W.item t 0)
    first_named = (0, F.first_state t ht, refl)

    pub root_item : {r : ℕ} → LocalRoot W t r → r < W.items
    root_item h = above_item (h.common (W.item t 0) first_named) (named_item first_named)

    pub root_one : {r q : ℕ} → LocalRoot W t r → LocalRoot W t q → r ≡ q
    root_one h g = above_same (g.deepest _ h.common) (h.deepest _ g.common) (root_item g)

    pub local_item : {d : ℕ} → Local W t d → d < W.items
    local_item h = above_item h.above_named (named_item h.is_named)
