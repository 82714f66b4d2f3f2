-- Some job can always go on.
use mathlib.Core.Path.{◌≡◌, refl, sym, ◌∙◌, subst, ap}
use mathlib.Core.Logic.{◌⊎◌, inl, inr}
use mathlib.Core.Bool.{Bool, true, false, cond, ◌&&◌, ◌||◌, true≢false}
use Prim.Native.Nat.{ℕ, zero, suc, ◌+◌, ◌<◌}
use native.Mathlib.Omega.{arith}
use native.Mathlib.Decide.{ℕ_discrete}
use lib.Dec.{eqb}
use Rattle.locking.specs.Tree.{Run, Has, TreeLocked, JobPositions}
use Rattle.locking.specs.Progress.{Moment, Sound, CanGoOn, Progress, NoDeadlock}
use Rattle.locking.proofs.Lists.{by_test, eqb_same, same_eqb}
use Rattle.locking.proofs.Tree.{tree_positions}

-- a number below n that passes a test, or none does
find : (p : ℕ → Bool) (n : ℕ) → ((h : ℕ) × (h < n) × (p h ≡ true)) ⊎ ((h : ℕ) → h < n → p h ≡ false)
find p zero = inr (λ h l. absurd (omega arith))
find p (suc n) =
    elim (find p n) [
      | inl f ↦ inl (f.0, omega arith, f.2)
      | inr g ↦
          by_test (λ v. p n ≡ v → ((h : ℕ) × (h < suc n) × (p h ≡ true)) ⊎ ((h : ℕ) → h < suc n → p h ≡ false)) (p n)
          (λ e t. inl (n, omega arith, t)) (λ e t. inr (λ h l. none h l g t)) refl
    ]
  where
    none : (h : ℕ) → h < suc n → ((k : ℕ) → k < n → p k ≡ false) → p n ≡ false → p h ≡ false
    none h l g t = elim (ℕ_discrete h n) [ yes e ↦ ap p e ∙ t | no f ↦ g h (omega arith) ]

-- the run in which each waiting job has locked what it waits for, later than all that was locked
abbrev extended : Moment → Run
extended M =
    record {
      up = M.run.up;
      depth = M.run.depth;
      root = M.run.root;
      has = λ j d. M.run.has j d || (M.waits j && eqb d (M.wants j));
      at = λ j d. cond (M.run.has j d) (M.run.at j d) (M.now + j);
    }

-- what the extended run says of a job and an item: the lock was real, or it is waited for
data View (M : Moment) (j d : ℕ) : Type 0 where
  real : Has M.run j d → (extended M).at j d ≡ M.run.at j d → View M j d
  waited : M.run.has j d ≡ false → M.waits j ≡ true → d ≡ M.wants j → (extended M).at j d ≡ M.now + j → View M j d

view : (M : Moment) (j d : ℕ) → Has (extended M) j d → View M j d
view M j d h = go (M.run.has j d) (M.waits j) (eqb d (M.wants j)) refl refl refl h
  where
    go
        : (a b c : Bool) → M.run.has j d ≡ a → M.waits j ≡ b → eqb d (M.wants j) ≡ c → (a || (b && c)) ≡ true → View M j d
    go true b c e f g t = real e (rw e)
    go false true true e f g t = waited e f (same_eqb d (M.wants j) g) (rw e)
    go false true false e f g t = absurd (true≢false (sym t))
    go false false c e f g t = absurd (true≢false (sym t))

real_has : (M : Moment) (j d : ℕ) → Has M.run j d → Has (extended M) j d
real_has M j d h = rw h

real_at : (M : Moment) (j d : ℕ) → Has M.run j d → (extended M).at j d ≡ M.run.at j d
real_at M j d h = rw h

module _ (N : ℕ) (M : Moment) (S : Sound N M) where
  apart'
      : (j k d : ℕ) → j < N → k < N → Has (extended M) j d → Has (extended M) k d → (extended M).at j d ≡ (extended M).at k d
      → j ≡ k
  apart' j k d hj hk a b q = go (view M j d a) (view M k d b)
    where
      go : View M j d → View M k d → j ≡ k
      go (real x e) (real y f) = S.locked.apart j k d hj hk x y (sym e ∙ q ∙ f)
      go (real x e) (waited y w z f) = absurd (let h = S.past j d hj x in omega arith)
      go (waited y w z f) (real x e) = absurd (let h = S.past k d hk x in omega arith)
      go (waited x w z e) (waited y u v f) = omega arith

  climbs'
      : (j d : ℕ) → j < N → Has (extended M) j d
      → (d ≡ M.run.root j) ⊎ (Has (extended M) j (M.run.up d) × (M.run.depth (M.run.up d) < M.run.depth d))
  climbs' j d hj a = go (view M j d a)
    where
      go
          : View M j d
          → (d ≡ M.run.root j) ⊎ (Has (extended M) j (M.run.up d) × (M.run.depth (M.run.up d) < M.run.depth d))
      go (real x e) =
          elim (S.locked.climbs j d hj x) [ inl r ↦ inl r | inr c ↦ inr (real_has M j (M.run.up d) c.0, c.1) ]
      go (waited x w z e) =
          elim (S.asked j hj w) [
            | inl r ↦ inl (z ∙ r)
            | inr c ↦
                inr
                (subst (λ (v : ℕ). Has (extended M) j (M.run.up v) × (M.run.depth (M.run.up v) < M.run.depth v)) (sym z)
                (real_has M j (M.run.up (M.wants j)) (S.held j (M.run.up (M.wants j)) hj c.0), c.1))
          ]

  -- a job that waits below its root holds the item above
  holds_above : (j d : ℕ) → j < N → M.waits j ≡ true → d ≡ M.wants j → ¬ (d ≡ M.run.root j) → M.holds j (M.run.up d) ≡ true
  holds_above j d hj w z n =
      elim (S.asked j hj w) [
        | inl r ↦ absurd (n (z ∙ r))
        | inr c ↦ subst (λ (v : ℕ). M.holds j (M.run.up v) ≡ true) (sym z) c.0
      ]

  -- a real lock below the root comes with a real lock above
  real_above : (j d : ℕ) → j < N → Has M.run j d → ¬ (d ≡ M.run.root j) → Has M.run j (M.run.up d)
  real_above j d hj x n = elim (S.locked.climbs j d hj x) [ inl r ↦ absurd (n r) | inr c ↦ c.0 ]

  -- nobody locked an item after the one who holds it
  not_after
      : (j k d : ℕ) → j < N → k < N → M.holds j d ≡ true → Has M.run k d → (extended M).at j d < (extended M).at k d → ⊥
  not_after j k d hj hk a b l =
      let u = S.latest j k d hj hk a b in
      let v = real_at M j d (S.held j d hj a) in
      let w = real_at M k d b in
      omega arith

  follows'
      : (j k d : ℕ) → j < N → k < N → Has (extended M) j d → Has (extended M) k d → Has (extended M) j (M.run.up d)
      → Has (extended M) k (M.run.up d) → ¬ (d ≡ M.run.root j) → ¬ (d ≡ M.run.root k)
      → (extended M).at j (M.run.up d) < (extended M).at k (M.run.up d) → (extended M).at j d < (extended M).at k d
  follows' j k d hj hk a b c e f g l = go (view M j d a) (view M k d b)
    where
      up : ℕ
      up = M.run.up d

      go : View M j d → View M k d → (extended M).at j d < (extended M).at k d
      go (real x p) (real y q) =
          let m = real_at M j up (real_above j d hj x f) in
          let n = real_at M k up (real_above k d hk y g) in
          let r = S.locked.follows j k d hj hk x y (real_above j d hj x f) (real_above k d hk y g) f g (omega arith) in
          omega arith
      go (real x p) (waited y w z q) = let h = S.past j d hj x in omega arith
      go (waited x w z p) (real y q) =
          absurd (not_after j k up hj hk (holds_above j d hj w z f) (real_above k d hk y g) l)
      go (waited x w z p) (waited y u v q) =
          absurd (not_after j k up hj hk (holds_above j d hj w z f) (S.held k up hk (holds_above k d hk u v g)) l)

  tree' : TreeLocked N (extended M)
  tree' = record { apart = apart'; climbs = climbs'; follows = follows' }

  -- who holds what a job waits for stands before it
  holder_first
      : (pos : ℕ → ℕ) → JobPositions N (extended M) pos → (k h : ℕ) → k < N → h < N → M.waits k ≡ true
      → M.holds h (M.wants k) ≡ true
      → pos h < pos k
  holder_first pos p k h hk hh w a =
      let x = S.held h (M.wants k) hh a in
      let u = S.past h (M.wants k) hh x in
      let v = real_at M h (M.wants k) x in
      let e = S.fresh k hk w in
      let q : (extended M).at k (M.wants k) ≡ M.now + k = rw e in
      let r : Has (extended M) k (M.wants k) = rw (e, w, eqb_same (M.wants k) (M.wants k) refl) in
      p.agrees (M.wants k) h k hh hk (real_has M h (M.wants k) x) r (omega arith)

  seek
      : (pos : ℕ → ℕ) → JobPositions N (extended M) pos → (n k : ℕ) → k < N → M.busy k ≡ true → pos k < n
      → (j : ℕ) × CanGoOn N M j
  seek pos p zero k hk b l = absurd (omega arith)
  seek pos p (suc n) k hk b l =
      by_test (λ v. M.waits k ≡ v → (j : ℕ) × CanGoOn N M j) (M.waits k)
      (λ e w. elim (find (λ h. M.holds h (M.wants k)) N) [
        | inl f ↦
            (let s = holder_first pos p k f.0 hk f.1 w f.2 in
            seek pos p n f.0 f.1 (S.open_still f.0 (M.wants k) f.1 f.2) (omega arith))
        | inr g ↦ (k, record { job = hk; busy = b; free = inr g })
      ])
      (λ e w. (k, record { job = hk; busy = b; free = inl w })) refl

pub progress : Progress
progress N M S j hj b =
    let t = tree_positions N (extended M) (tree' N M S) in
    seek N M S t.0 t.1 (suc (t.0 j)) j hj b (omega arith)

pub no_deadlock : NoDeadlock
no_deadlock N M S j hj b all =
    let g = progress N M S j hj b in
    let a = all g.0 g.1.job g.1.busy in
    elim g.1.free [
      | inl e ↦ true≢false (sym a.1.waiting ∙ e)
      | inr n ↦ true≢false (sym a.1.holding ∙ n a.0 a.1.other)
    ]
