-- What holds of one job after each of its steps.
use mathlib.Core.Path.{◌≡◌, refl, sym, ◌∙◌, subst, ap}
use mathlib.Core.List.{List, [], ◌∷◌}
use mathlib.Core.Logic.{◌⊎◌, inl, inr}
use mathlib.Core.Option.{some}
use mathlib.Core.Bool.{Bool, true, false, true≢false}
use Prim.Native.Nat.{ℕ, zero, suc, ◌<◌}
use native.Mathlib.Omega.{arith}
use native.Mathlib.Decide.{ℕ_discrete}
use lib.IntN.{ℤ}
use lib.ListN.{get_elem?}
use Rattle.locking.specs.Lists.{Mem}
use Rattle.model.specs.Workload.{Workload, Above, self, over, Arc, stay, onward, WellFormed, Unlockable}
use Rattle.model.specs.Workload.{Named, LocalRoot, Local, LocalChild, LocalLeaf, Takes}
use Rattle.model.specs.Table.{Job, item_of, Without, With, WithAll, Wanted, new_job, holding, locking, with_register, in_state}
use Rattle.model.specs.Table.{ended, not_awaited}
use Rattle.model.specs.Sound.{Passed, Closing, Good}
use Rattle.model.proofs.Tree.{above_trans, above_chain, above_up, above_down, above_same, above_item, local_item, named_item}
use Rattle.model.proofs.Tree.{root_one, depth, depth_up}

pub clash : {b : Bool} → b ≡ true → b ≡ false → ⊥
clash p q = true≢false (sym p ∙ q)

-- each test passes or fails
pub test : (b : Bool) → (b ≡ true) ⊎ (b ≡ false)
test true = inl refl
test false = inr refl

pub without_less : {a b : ℕ → Bool} {d : ℕ} (x : ℕ) → Without a d b → b x ≡ true → a x ≡ true
without_less {a} {b} {d} x w h = elim (ℕ_discrete x d) [
  | yes e ↦ absurd (clash (subst (λ (y : ℕ). b y ≡ true) e h) w.0)
  | no n ↦ sym (w.1 x n) ∙ h
]

pub with_more : {a b : ℕ → Bool} {d : ℕ} (x : ℕ) → With a d b → a x ≡ true → b x ≡ true
with_more {a} {b} {d} x w h = elim (ℕ_discrete x d) [
  | yes e ↦ subst (λ (y : ℕ). b y ≡ true) (sym e) w.0
  | no n ↦ w.1 x n ∙ h
]

pub with_cases : {a b : ℕ → Bool} {d : ℕ} (x : ℕ) → With a d b → b x ≡ true → (x ≡ d) ⊎ (a x ≡ true)
with_cases {a} {b} {d} x w h = elim (ℕ_discrete x d) [ yes e ↦ inl e | no n ↦ inr (sym (w.1 x n) ∙ h) ]

pub element_mem : {A : Type 0} (l : List A) (i : ℕ) (x : A) → get_elem? l i ≡ some x → Mem x l
element_mem [] i x e = absurd (let z : ◌≡◌ {A = ℕ} 0 1 = cc in omega arith)
element_mem (y ∷ ys) zero x e = inl (cc)
element_mem (y ∷ ys) (suc i) x e = inr (element_mem ys i x e)

module _ (W : Workload) (F : WellFormed W) where
  pub good_new : (t : ℕ) (a : ℤ) (r : ℕ) → t < W.types → LocalRoot W t r → Good W r (new_job t a)
  good_new t a r ht hr =
      record {
        type_ok = ht;
        state_ok = F.first_state t ht;
        is_root = hr;
        unreachable = λ d e. absurd (clash e refl);
        held_locked = λ d e. e;
        inside = λ d e. absurd (clash e refl);
        climbs = λ d e. absurd (clash e refl);
        passed = λ n d e f. absurd (clash e refl);
        at_end = λ e. absurd (clash e refl);
      }

  module _ (r : ℕ) (J : Job) (G : Good W r J) where
    pub good_not_awaited : Good W r (not_awaited J)
    good_not_awaited =
        record {
          type_ok = G.type_ok;
          state_ok = G.state_ok;
          is_root = G.is_root;
          unreachable = G.unreachable;
          held_locked = G.held_locked;
          inside = G.inside;
          climbs = G.climbs;
          passed = G.passed;
          at_end = G.at_end;
        }

    pub good_ended : Closing W J → ((d : ℕ) → J.held d ≡ false) → Good W r (ended J)
    good_ended c n =
        record {
          type_ok = G.type_ok;
          state_ok = G.state_ok;
          is_root = G.is_root;
          unreachable = G.unreachable;
          held_locked = G.held_locked;
          inside = G.inside;
          climbs = G.climbs;
          passed = G.passed;
          at_end = λ e. (c, n);
        }

    pub good_held
        : (d : ℕ) (h : ℕ → Bool) → J.has_finished ≡ false → Without J.held d h
        → (¬ Closing W J → Passed W J.type J.ever_locked J.done d) → Good W r (holding J h)
    good_held d h u w m =
        record {
          type_ok = G.type_ok;
          state_ok = G.state_ok;
          is_root = G.is_root;
          unreachable = G.unreachable;
          held_locked = λ x e. G.held_locked x (without_less x w e);
          inside = G.inside;
          climbs = G.climbs;
          passed = λ n x e f. elim (ℕ_discrete x d) [
            | yes q ↦ subst (Passed W J.type J.ever_locked J.done) (sym q) (m n)
            | no k ↦ G.passed n x e (sym (w.1 x k) ∙ f)
          ];
          at_end = λ e. absurd (clash e u);
        }

    pub good_work : (p : ℤ) → J.has_finished ≡ false → J.has_worked ≡ false → Good W r (with_register J p)
    good_work p u f =
        record {
          type_ok = G.type_ok;
          state_ok = G.state_ok;
          is_root = G.is_root;
          unreachable = G.unreachable;
          held_locked = G.held_locked;
          inside = G.inside;
          climbs = G.climbs;
          passed = λ n. G.passed (λ c. clash c.0 f);
          at_end = λ e. absurd (clash e u);
        }

    takes_arc : (s : ℕ) → Takes W J.type J.state J.register s → Arc W J.type J.state s
    takes_arc s e = (G.state_ok, element_mem (W.arcs J.type J.state) _ s e)

    takes_open : (s : ℕ) → Takes W J.type J.state J.register s → ¬ Closing W J
    takes_open s e c = subst (λ (l : List ℕ). Mem s l) c.1 (takes_arc s e).1

    pub good_go
        : (s : ℕ) (u : ℕ → Bool) → J.has_finished ≡ false → Takes W J.type J.state J.register s
        → WithAll J.done (Unlockable W J.type s) u → Good W r (in_state J s u)
    good_go s u f e w =
        record {
          type_ok = G.type_ok;
          state_ok = F.leads J.type J.state s G.type_ok (takes_arc s e);
          is_root = G.is_root;
          unreachable = λ d h. elim ((w d).0 h) [
            | inl o ↦ λ q y. G.unreachable d o q (onward J.state s q (takes_arc s e) y)
            | inr n ↦ n.here
          ];
          held_locked = G.held_locked;
          inside = G.inside;
          climbs = G.climbs;
          passed = λ n x g h. more x (G.passed (takes_open s e) x g h);
          at_end = λ g. absurd (clash g f);
        }
      where
        more : (x : ℕ) → Passed W J.type J.ever_locked J.done x → Passed W J.type J.ever_locked u x
        more x p =
            record {
              unneeded = elim p.unneeded [ inl a ↦ inl ((w x).1 (inl a)) | inr b ↦ inr b ];
              below = λ c l. elim (p.below c l) [ inl a ↦ inl a | inr b ↦ inr (b.0, (w c).1 (inl b.1)) ];
            }

    named_here : Named W J.type (item_of W J)
    named_here = (J.state, G.state_ok, refl)

    wanted_local : (d : ℕ) → Wanted W J d → Local W J.type d
    wanted_local d w =
        record {
          root = w.root;
          is_root = w.is_root;
          below_root = w.below_root;
          named = item_of W J;
          is_named = named_here;
          above_named = w.on_the_way;
        }

    root_same : (d : ℕ) (w : Wanted W J d) → w.root ≡ r
    root_same d w = root_one W F J.type G.type_ok w.is_root G.is_root

    below_r : (d : ℕ) → Wanted W J d → Above W r d
    below_r d w = subst (λ (x : ℕ). Above W x d) (root_same d w) w.below_root

    pub wanted_item : (d : ℕ) → Wanted W J d → d < W.items
    wanted_item d w = local_item W F J.type G.type_ok (wanted_local d w)

    -- the parent of a wanted item that is not the local root was locked
    up_locked : (d : ℕ) → Wanted W J d → ¬ (d ≡ r) → (J.ever_locked (W.up d) ≡ true) × ¬ (d ≡ W.top)
    up_locked d w n =
        let u = above_up (below_r d w) (λ e. n (sym e)) in (
          w.first (W.up d) (subst (λ (x : ℕ). Above W x (W.up d)) (sym (root_same d w)) u.0) (over d u.1 self)
              (λ e. absurd (let k = depth_up W F d (wanted_item d w) u.1 in let q = ap (depth W F) e in omega arith)),
          u.1,
        )

    pub good_lock
        : (d : ℕ) (h l : ℕ → Bool) → J.has_finished ≡ false → J.has_worked ≡ false → Wanted W J d → With J.held d h
        → With J.ever_locked d l → Good W r (locking J h l)
    good_lock d h l u f w wh wl =
        record {
          type_ok = G.type_ok;
          state_ok = G.state_ok;
          is_root = G.is_root;
          unreachable = G.unreachable;
          held_locked = λ x e. elim (with_cases x wh e) [
            | inl q ↦ subst (λ (y : ℕ). l y ≡ true) (sym q) wl.0
            | inr o ↦ with_more x wl (G.held_locked x o)
          ];
          inside = λ x e. elim (with_cases x wl e) [
            | inl q ↦ subst (Local W J.type) (sym q) (wanted_local d w)
            | inr o ↦ G.inside x o
          ];
          climbs = λ x e. elim (with_cases x wl e) [
            | inl q ↦ elim (ℕ_discrete d r) [
              | yes y ↦ inl (q ∙ y)
              | no n ↦ inr
                  (subst (λ (y : ℕ). (l (W.up y) ≡ true) × ¬ (y ≡ W.top)) (sym q)
                  (let a = up_locked d w n in (with_more (W.up d) wl a.0, a.1)))
            ]
            | inr o ↦ elim (G.climbs x o) [ inl a ↦ inl a | inr b ↦ inr (with_more (W.up x) wl b.0, b.1) ]
          ];
          passed = λ n x e g. elim (ℕ_discrete x d) [
            | yes q ↦ absurd (clash (subst (λ (y : ℕ). h y ≡ true) (sym q) wh.0) g)
            | no k ↦ more x (G.passed (λ c. clash c.0 f) x (sym (wl.1 x k) ∙ e) (sym (wh.1 x k) ∙ g))
          ];
          at_end = λ e. absurd (clash e u);
        }
      where
        more : (x : ℕ) → Passed W J.type J.ever_locked J.done x → Passed W J.type l J.done x
        more x p =
            record {
              unneeded = p.unneeded;
              below = λ c i. elim (p.below c i) [ inl a ↦ inl (with_more c wl a) | inr b ↦ inr b ];
            }

    -- a job wants its local root, or an item right below one that it holds
    pub asks : (d : ℕ) → J.has_worked ≡ false → Wanted W J d → (d ≡ r) ⊎ ((J.held (W.up d) ≡ true) × ¬ (d ≡ W.top))
    asks d f w = elim (ℕ_discrete d r) [
      | yes e ↦ inl e
      | no n ↦ (let u = up_locked d w n in
          elim (test (J.held (W.up d))) [
            | inl h ↦ inr (h, u.1)
            | inr h ↦ absurd (went n ((G.passed (λ c. clash c.0 f) (W.up d) u.0 h).below d (child n u)))
          ])
    ]
      where
        child : ¬ (d ≡ r) → (J.ever_locked (W.up d) ≡ true) × ¬ (d ≡ W.top) → LocalChild W J.type (W.up d) d
        child n u =
            record {
              inside = wanted_local d w;
              parent = G.inside (W.up d) u.0;
              not_top = u.1;
              right_below = refl;
            }

        went : ¬ (d ≡ r) → (J.ever_locked d ≡ true) ⊎ (LocalLeaf W J.type d × (J.done d ≡ true)) → ⊥
        went n (inl e) = clash e w.never_locked
        went n (inr b) = elim (ℕ_discrete d (item_of W J)) [
          | yes e ↦ G.unreachable d b.1 J.state (stay J.state) (sym e)
          | no k ↦ (let c = above_down w.on_the_way k in
              b.0.childless c.0
              (record {
                inside = record {
                  root = w.root;
                  is_root = w.is_root;
                  below_root =
                      above_trans w.below_root (over c.0 c.3 (subst (λ (y : ℕ). Above W d y) (sym c.1) self));
                  named = item_of W J;
                  is_named = named_here;
                  above_named = c.2;
                };
                parent = wanted_local d w;
                not_top = c.3;
                right_below = c.1;
              }))
        ]

    -- there is one wanted item
    pub wanted_one : (d e : ℕ) → Wanted W J d → Wanted W J e → d ≡ e
    wanted_one d e w v = elim (ℕ_discrete d e) [
      | yes q ↦ q
      | no n ↦ elim (above_chain w.on_the_way v.on_the_way) [
        | inl a ↦ absurd (clash (v.first d (subst (λ (x : ℕ). Above W x d) (sym (root_same e v)) (below_r d w)) a n)
            w.never_locked)
        | inr a ↦ absurd (clash
            (w.first e (subst (λ (x : ℕ). Above W x e) (sym (root_same d w)) (below_r e v)) a (λ q. n (sym q)))
            v.never_locked)
      ]
    ]

    -- all above a locked item, up to the local root, was locked
    locked_above : {x y : ℕ} → Above W x y → Above W r x → J.ever_locked y ≡ true → J.ever_locked x ≡ true
    locked_above self a e = e
    locked_above {x} (over y n g) a e = elim (G.climbs y e) [
      | inl q ↦ subst (λ (z : ℕ). J.ever_locked z ≡ true)
          (q ∙ above_same W F a (subst (λ (z : ℕ). Above W x z) q (over y n g))
          (above_item W F (over y n g) (local_item W F J.type G.type_ok (G.inside y e)))) e
      | inr b ↦ locked_above g a b.0
    ]

    Found : ℕ → ℕ → Type 0
    Found x d =
        Above W r d
        × (Above W d x
        × ((J.ever_locked d ≡ false) × ((y : ℕ) → Above W r y → Above W y d → ¬ (y ≡ d) → J.ever_locked y ≡ true)))

    find : {a x : ℕ} → a ≡ r → Above W a x → J.ever_locked x ≡ false → x < W.items → (d : ℕ) × Found x d
    unfolding Found
    find {a} q self e h = (
      a,
      (
        subst (λ (z : ℕ). Above W z a) q self,
        (
          self,
          (
            e,
            λ y g k n. absurd (n (above_same W F k (subst (λ (z : ℕ). Above W z y) (sym q) g) h)),
          ),
        ),
      ),
    )
    find {a} q (over x n g) e h =
        go (test (J.ever_locked (W.up x))) (λ f. find q g f (F.up_item x h n))
      where
        go
            : (J.ever_locked (W.up x) ≡ true) ⊎ (J.ever_locked (W.up x) ≡ false)
            → (J.ever_locked (W.up x) ≡ false → (d : ℕ) × Found (W.up x) d) → (d : ℕ) × Found x d
        go (inl f) k =
            (x, (subst (λ (z : ℕ). Above W z x) q (over x n g), (self, (e, λ y i j m. locked_above (above_up j m).0 i f))))
        go (inr f) k = let s = k f in (s.0, (s.1.0, (over x n s.1.1.0, (s.1.1.1.0, s.1.1.1.1))))

    -- a job that has not worked and does not hold its state's item wants an item
    pub wanted_found : J.has_worked ≡ false → J.held (item_of W J) ≡ false → (d : ℕ) × Wanted W J d
    unfolding Found
    wanted_found f h =
        let s = find refl (G.is_root.common (item_of W J) named_here) (never (test (J.ever_locked (item_of W J))))
        (named_item W F J.type G.type_ok named_here) in (
          s.0,
          record {
            root = r;
            is_root = G.is_root;
            below_root = s.1.0;
            on_the_way = s.1.1.0;
            never_locked = s.1.1.1.0;
            first = s.1.1.1.1;
          },
        )
      where
        gone_by : Passed W J.type J.ever_locked J.done (item_of W J) → ⊥
        gone_by p = elim p.unneeded [
          | inl a ↦ G.unreachable (item_of W J) a J.state (stay J.state) refl
          | inr b ↦ b named_here
        ]

        never
            : (J.ever_locked (item_of W J) ≡ true) ⊎ (J.ever_locked (item_of W J) ≡ false)
            → J.ever_locked (item_of W J) ≡ false
        never (inl e) = absurd (gone_by (G.passed (λ c. clash c.0 f) (item_of W J) e h))
        never (inr e) = e
