-- Jobs that lock by the tree can be put into one order.
use mathlib.Core.Path.{◌≡◌, refl, sym, ◌∙◌, subst, ap}
use mathlib.Core.List.{List, [], ◌∷◌}
use mathlib.Core.Logic.{◌⊎◌, inl, inr}
use mathlib.Core.Bool.{Bool, true, false, ◌&&◌, true≢false}
use Prim.Native.Nat.{ℕ, zero, suc, ◌≤◌, ◌<◌}
use native.Mathlib.Omega.{arith}
use native.Mathlib.Decide.{ℕ_discrete, dec_lt}
use lib.Dec.{ltb}
use lib.ListN.{length}
use Rattle.locking.specs.Lists.{Mem, Before, Distinct}
use Rattle.locking.specs.Tree.{Run, Has, TreeLocked, JobOrder, TreeOrder, TreePositions}
use Rattle.locking.proofs.Lists.{position, position_apart, position_before, position_below}
use Rattle.locking.proofs.Put.{put, put_self, put_old, put_cases, put_distinct, put_keeps, put_behind, put_ahead, put_length}
use Rattle.locking.proofs.Sorted.{Descending, sorted, sorted_only, sorted_whole, sorted_distinct, sorted_descending}
use Rattle.locking.proofs.Sorted.{sorted_length}

-- the test of the jobs that stand before j at j's root
abbrev pre : Run → ℕ → ℕ → Bool
pre R j k = R.has k (R.root j) && ltb (R.at k (R.root j)) (R.at j (R.root j))

-- each job put in behind the last that must stand before it, the list's last job first
abbrev weave : Run → List ℕ → List ℕ
weave R [] = []
weave R (j ∷ js) = put (pre R j) j (weave R js)

-- how deep a job's root stands
key : Run → ℕ → ℕ
key R j = R.depth (R.root j)

-- some item has j's lock before k's
Must : Run → ℕ → ℕ → Type 0
Must R j k = (d : ℕ) × Has R j d × Has R k d × (R.at j d < R.at k d)

and_intro : (a b : Bool) → a ≡ true → b ≡ true → (a && b) ≡ true
and_intro true b e f = f
and_intro false b e f = absurd (true≢false (sym e))

and_left : (a b : Bool) → (a && b) ≡ true → a ≡ true
and_left true b e = refl
and_left false b e = e

and_right : (a b : Bool) → (a && b) ≡ true → b ≡ true
and_right true b e = e
and_right false b e = absurd (true≢false (sym e))

ltb_of : (m n : ℕ) → m < n → ltb m n ≡ true
ltb_of m n h = grind arith

lt_of : (m n : ℕ) → ltb m n ≡ true → m < n
lt_of m n h = grind arith

module _ (N : ℕ) (R : Run) (T : TreeLocked N R) where
  -- no item of a job is less deep than its root
  root_depth : (n j d : ℕ) → j < N → Has R j d → R.depth d < n → R.depth (R.root j) ≤ R.depth d
  root_depth zero j d hj h l = absurd (omega arith)
  root_depth (suc n) j d hj h l =
      elim (T.climbs j d hj h) [
        | inl e ↦ subst (λ (v : ℕ). R.depth (R.root j) ≤ R.depth v) (sym e) (omega arith)
        | inr c ↦ (let g : R.depth (R.root j) ≤ R.depth (R.up d) = root_depth n j (R.up d) hj c.0
            (omega arith) in omega arith)
      ]

  -- one step up keeps the order
  step_up
      : (j k d : ℕ) → j < N → k < N → Has R j d → Has R k d → Has R j (R.up d) → Has R k (R.up d) → ¬ (d ≡ R.root j)
      → ¬ (d ≡ R.root k)
      → R.at j d < R.at k d → R.at j (R.up d) < R.at k (R.up d)
  step_up j k d hj hk a b c e f g l =
      elim (dec_lt (R.at j (R.up d)) (R.at k (R.up d))) [
        | yes y ↦ y
        | no n ↦ elim (dec_lt (R.at k (R.up d)) (R.at j (R.up d))) [
          | yes y ↦ absurd (let w : R.at k d < R.at j d = T.follows k j d hk hj b a e c g f y in omega arith)
          | no m ↦ absurd (same (T.apart j k (R.up d) hj hk c e (omega arith)))
        ]
      ]
    where
      same : j ≡ k → ⊥
      same p = let w : R.at j d ≡ R.at k d = ap (λ (v : ℕ). R.at v d) p in omega arith

  -- what the jobs j and k share, with k's root no deeper than j's: k has j's root too, and there they stand in the same order
  record SameAtRoot (j k d : ℕ) : Type 0 where
    there : Has R k (R.root j)
    ahead : R.at j d < R.at k d → R.at j (R.root j) < R.at k (R.root j)
    behind : R.at k d < R.at j d → R.at k (R.root j) < R.at j (R.root j)

  -- by steps up from the shared item d to j's root
  walk
      : (n j k d : ℕ) → j < N → k < N → key R k ≤ key R j → Has R j d → Has R k d → R.depth d < n → SameAtRoot j k d
  unfolding key
  walk zero j k d hj hk q a b l = absurd (omega arith)
  walk (suc n) j k d hj hk q a b l =
      elim (ℕ_discrete d (R.root j)) [
        | yes e ↦ arrived e
        | no f ↦ elim (T.climbs j d hj a) [
          | inl e ↦ absurd (f e)
          | inr c ↦ elim (ℕ_discrete d (R.root k)) [
            | yes e ↦ absurd (too_deep c e)
            | no g ↦ elim (T.climbs k d hk b) [
              | inl e ↦ absurd (g e)
              | inr s ↦ climbed f g c.0 s.0 (walk n j k (R.up d) hj hk q c.0 s.0 (omega arith))
            ]
          ]
        ]
      ]
    where
      arrived : d ≡ R.root j → SameAtRoot j k d
      arrived e =
          record {
            there = subst (λ (v : ℕ). Has R k v) e b;
            ahead = subst (λ (v : ℕ). R.at j v < R.at k v) e;
            behind = subst (λ (v : ℕ). R.at k v < R.at j v) e;
          }

      too_deep : Has R j (R.up d) × (R.depth (R.up d) < R.depth d) → d ≡ R.root k → ⊥
      too_deep c e =
          let g : R.depth (R.root j) ≤ R.depth (R.up d) = root_depth (suc (R.depth (R.up d))) j (R.up d) hj c.0
          (omega arith) in
          let w : R.depth d ≡ R.depth (R.root k) = ap R.depth e in
          omega arith

      climbed
          : ¬ (d ≡ R.root j) → ¬ (d ≡ R.root k) → Has R j (R.up d) → Has R k (R.up d) → SameAtRoot j k (R.up d)
          → SameAtRoot j k d
      climbed f g c s w =
          record {
            there = w.there;
            ahead = λ h. w.ahead (step_up j k d hj hk a b c s f g h);
            behind = λ h. w.behind (step_up k j d hk hj b a s c g f h);
          }

  met : (j k d : ℕ) → j < N → k < N → key R k ≤ key R j → Has R j d → Has R k d → SameAtRoot j k d
  met j k d hj hk q a b = walk (suc (R.depth d)) j k d hj hk q a b (omega arith)

  -- what must stand before j passes its test
  must_pre : (j k : ℕ) → j < N → k < N → key R k ≤ key R j → Must R k j → pre R j k ≡ true
  unfolding Must
  must_pre j k hj hk q m =
      let s = met j k m.0 hj hk q m.2 m.1 in
      and_intro (R.has k (R.root j)) (ltb (R.at k (R.root j)) (R.at j (R.root j))) s.there
      (ltb_of (R.at k (R.root j)) (R.at j (R.root j)) (s.behind m.3))

  -- what passes the test must stand before all that must stand behind j
  pre_must : (j x y : ℕ) → j < N → x < N → key R x ≤ key R j → Must R j x → pre R j y ≡ true → Must R y x
  unfolding Must
  pre_must j x y hj hx q m t =
      let s = met j x m.0 hj hx q m.1 m.2 in
      let h : R.at j (R.root j) < R.at x (R.root j) = s.ahead m.3 in
      let g : R.at y (R.root j) < R.at j (R.root j) =
      lt_of (R.at y (R.root j)) (R.at j (R.root j))
      (and_right (R.has y (R.root j)) (ltb (R.at y (R.root j)) (R.at j (R.root j))) t)
      in (
        R.root j,
        and_left (R.has y (R.root j)) (ltb (R.at y (R.root j)) (R.at j (R.root j))) t,
        s.there,
        omega arith,
      )

  must_not_self : (j : ℕ) → ¬ Must R j j
  unfolding Must
  must_not_self j m = let h : R.at j m.0 < R.at j m.0 = m.3 in omega arith

  weave_old : (x : ℕ) (l : List ℕ) → Mem x l → Mem x (weave R l)
  weave_old x [] m = m
  weave_old x (j ∷ js) (inl e) = subst (λ (v : ℕ). Mem v (weave R (j ∷ js))) (sym e) (put_self (pre R j) j (weave R js))
  weave_old x (j ∷ js) (inr m) = put_old (pre R j) j x (weave R js) (weave_old x js m)

  weave_only : (x : ℕ) (l : List ℕ) → Mem x (weave R l) → Mem x l
  weave_only x [] m = m
  weave_only x (j ∷ js) m =
      elim (put_cases (pre R j) j x (weave R js) m) [ inl e ↦ inl e | inr k ↦ inr (weave_only x js k) ]

  weave_distinct : (l : List ℕ) → Distinct l → Distinct (weave R l)
  weave_distinct [] d = tt
  weave_distinct (j ∷ js) d = put_distinct (pre R j) j (weave R js) (λ m. d.0 (weave_only j js m)) (weave_distinct js d.1)

  -- the list agrees with every item
  Kept : List ℕ → Type 0
  Kept l = (x y : ℕ) → Mem x l → Mem y l → Must R x y → Before x y l

  weave_kept
      : (l : List ℕ) → Distinct l → Descending (key R) l → ((x : ℕ) → Mem x l → x < N) → Kept (weave R l)
  unfolding Kept
  weave_kept [] d s b x y m n r = absurd m
  weave_kept (j ∷ js) d s b x y m n r =
      both (weave_kept js d.1 s.1 (λ z k. b z (inr k))) (put_cases (pre R j) j x ws m) (put_cases (pre R j) j y ws n)
    where
      ws : List ℕ
      ws = weave R js

      hj : j < N
      hj = b j (inl refl)

      low : (z : ℕ) → Mem z ws → z < N
      low z k = b z (inr (weave_only z js k))

      less : (z : ℕ) → Mem z ws → key R z ≤ key R j
      less z k = s.0 z (weave_only z js k)

      -- y is new
      last : Mem x ws → y ≡ j → Before x y (put (pre R j) j ws)
      last k e =
          subst (λ (v : ℕ). Before x v (put (pre R j) j ws)) (sym e)
          (put_behind (pre R j) j x ws k (must_pre j x hj (low x k) (less x k) (subst (λ (v : ℕ). Must R x v) e r)))

      -- x is new
      first : Kept ws → x ≡ j → Mem y ws → Before x y (put (pre R j) j ws)
      first ih e k =
          subst (λ (v : ℕ). Before v y (put (pre R j) j ws)) (sym e)
          (put_ahead (pre R j) j y ws (weave_distinct js d.1) k
          (λ z i t. ih z y i k (pre_must j y z hj (low y k) (less y k) (subst (λ (v : ℕ). Must R v y) e r) t)))

      both : Kept ws → (x ≡ j) ⊎ Mem x ws → (y ≡ j) ⊎ Mem y ws → Before x y (put (pre R j) j ws)
      both ih (inl e) (inl f) = absurd (must_not_self j (subst (λ (v : ℕ). Must R j v) f (subst (λ (v : ℕ). Must R v y) e r)))
      both ih (inl e) (inr k) = first ih e k
      both ih (inr k) (inl f) = last k f
      both ih (inr k) (inr i) = put_keeps (pre R j) j x y ws (ih x y k i r)

  order : List ℕ
  order = weave R (sorted (key R) N)

  ordered : JobOrder N R order
  unfolding order Kept Must
  ordered =
      record {
        distinct = weave_distinct (sorted (key R) N) (sorted_distinct (key R) N);
        whole = in_order;
        only = λ j m. sorted_only (key R) N j (weave_only j (sorted (key R) N) m);
        agrees = λ d j k hj hk a b h.
            weave_kept (sorted (key R) N) (sorted_distinct (key R) N) (sorted_descending (key R) N) (sorted_only (key R) N)
            j k (in_order j hj) (in_order k hk) (d, a, b, h);
      }
    where
      in_order : (j : ℕ) → j < N → Mem j (weave R (sorted (key R) N))
      in_order j h = weave_old j (sorted (key R) N) (sorted_whole (key R) N j h)

  weave_length : (l : List ℕ) → length (weave R l) ≡ length l
  weave_length [] = refl
  weave_length (j ∷ js) = put_length (pre R j) j (weave R js) ∙ ap suc (weave_length js)

  order_length : length order ≡ N
  unfolding order
  order_length = weave_length (sorted (key R) N) ∙ sorted_length (key R) N

pub tree_order : TreeOrder
tree_order N R T = (order N R T, ordered N R T)

pub tree_positions : TreePositions
tree_positions N R T =
    let o = ordered N R T in
    let l = order N R T in (
      λ j. position j l,
      record {
        apart = λ j k hj hk e. position_apart j k l (o.whole j hj) (o.whole k hk) e;
        below = λ j hj. (let b = position_below j l (o.whole j hj) in let n = order_length N R T in omega arith);
        agrees = λ d j k hj hk a b h. position_before j k l o.distinct (o.agrees d j k hj hk a b h);
      },
    )
