-- What holds of all locks and of the log, after each lock, release and work.
use mathlib.Core.Path.{◌≡◌, sym, ◌∙◌, subst, ap}
use mathlib.Core.List.{List, [], ◌∷◌, ◌++◌}
use mathlib.Core.Logic.{◌⊎◌, inl, inr}
use mathlib.Core.Bool.{Bool, true, false}
use Prim.Native.Nat.{ℕ, suc, ◌≤◌, ◌<◌}
use native.Mathlib.Omega.{arith}
use native.Mathlib.Decide.{ℕ_discrete}
use Rattle.locking.specs.Lists.{Mem, Before}
use Rattle.locking.specs.Serial.{Entry}
use Rattle.locking.proofs.Keep.{append_cases}
use Rattle.model.proofs.Job.{clash}

-- Who has locked what and when, and who holds what.
pub record Scene : Type 0 where
  -- the jobs are the numbers below this one
  pub count : ℕ
  pub root : ℕ → ℕ
  pub has : ℕ → ℕ → Bool
  pub holds : ℕ → ℕ → Bool
  pub at : ℕ → ℕ → ℕ
  pub now : ℕ

-- The rules of tree locking, kept so far.
pub record Kept (up : ℕ → ℕ) (S : Scene) : Type 0 where
  pub past : (j d : ℕ) → j < S.count → S.has j d ≡ true → S.at j d < S.now
  pub latest : (j k d : ℕ) → j < S.count → k < S.count → S.holds j d ≡ true → S.has k d ≡ true → S.at k d ≤ S.at j d
  pub apart
      : (j k d : ℕ) → j < S.count → k < S.count → S.has j d ≡ true → S.has k d ≡ true → S.at j d ≡ S.at k d → j ≡ k
  pub follows
      : (j k d : ℕ) → j < S.count → k < S.count → S.has j d ≡ true → S.has k d ≡ true → S.has j (up d) ≡ true
      → S.has k (up d) ≡ true → ¬ (d ≡ S.root j) → ¬ (d ≡ S.root k) → S.at j (up d) < S.at k (up d) → S.at j d < S.at k d

-- Each entry of the log was written while its job held its item.
pub record Written {P : Type 0} (S : Scene) (log : List (Entry P)) : Type 0 where
  pub rising : (e f : Entry P) → Before e f log → e.stamp < f.stamp
  pub known : (e : Entry P) → Mem e log → e.job < S.count
  pub locked : (e : Entry P) → Mem e log → S.has e.job e.item ≡ true
  pub within : (e : Entry P) → Mem e log → S.at e.job e.item ≤ e.stamp
  pub released
      : (e : Entry P) → Mem e log → (k : ℕ) → k < S.count → S.has k e.item ≡ true
      → S.at e.job e.item < S.at k e.item
      → e.stamp < S.at k e.item
  pub young : (e : Entry P) → Mem e log → e.stamp < S.now

-- Nothing is locked: a job is new, or something is released, or nothing changes.
pub record Mild (S Z : Scene) : Type 0 where
  pub time : S.now ≤ Z.now
  pub times : (k x : ℕ) → Z.at k x ≡ S.at k x
  pub more : S.count ≤ Z.count
  pub roots : (k : ℕ) → k < S.count → Z.root k ≡ S.root k
  pub still : (k x : ℕ) → k < S.count → S.has k x ≡ true → Z.has k x ≡ true
  pub only : (k x : ℕ) → k < Z.count → Z.has k x ≡ true → (k < S.count) × (S.has k x ≡ true)
  pub fewer : (k x : ℕ) → k < Z.count → Z.holds k x ≡ true → (k < S.count) × (S.holds k x ≡ true)

-- The job j locks the item d, which it had never locked and nobody holds.
pub record Lock (up : ℕ → ℕ) (j d : ℕ) (S Z : Scene) : Type 0 where
  pub job : j < S.count
  pub time : Z.now ≡ suc S.now
  pub same_count : Z.count ≡ S.count
  pub roots : (k : ℕ) → Z.root k ≡ S.root k
  pub fresh : S.has j d ≡ false
  pub free : (k : ℕ) → k < S.count → S.holds k d ≡ false
  pub asked : (d ≡ S.root j) ⊎ (S.holds j (up d) ≡ true)
  pub stamped : Z.at j d ≡ S.now
  pub other
      : (k x : ℕ) → ¬ ((k ≡ j) × (x ≡ d)) → (Z.has k x ≡ S.has k x) × (Z.holds k x ≡ S.holds k x) × (Z.at k x ≡ S.at k x)

here? : (j d k x : ℕ) → ((k ≡ j) × (x ≡ d)) ⊎ ¬ ((k ≡ j) × (x ≡ d))
here? j d k x = elim (ℕ_discrete k j) [
  | yes e ↦ elim (ℕ_discrete x d) [ yes f ↦ inl (e, f) | no n ↦ inr (λ h. n h.1) ]
  | no n ↦ inr (λ h. n h.0)
]

module _ (up : ℕ → ℕ) (S Z : Scene) (M : Mild S Z) where
  pub kept_mild : Kept up S → Kept up Z
  kept_mild K =
      record {
        past = λ j d hj a.
            let p = M.only j d hj a in
            let b = K.past j d p.0 p.1 in
            let e = M.times j d in
            let t = M.time in
            omega arith;
        latest = λ j k d hj hk a b.
            let p = M.fewer j d hj a in
            let q = M.only k d hk b in
            let r = K.latest j k d p.0 q.0 p.1 q.1 in
            let e = M.times j d in
            let f = M.times k d in
            omega arith;
        apart = λ j k d hj hk a b r.
            let p = M.only j d hj a in
            let q = M.only k d hk b in
            K.apart j k d p.0 q.0 p.1 q.1 (sym (M.times j d) ∙ r ∙ M.times k d);
        follows = λ j k d hj hk a b a' b' n m r.
            let p = M.only j d hj a in
            let q = M.only k d hk b in
            let e = M.times j (up d) in
            let f = M.times k (up d) in
            let g = M.times j d in
            let h = M.times k d in
            let i =
            K.follows j k d p.0 q.0 p.1 q.1 (M.only j (up d) hj a').1 (M.only k (up d) hk b').1
            (λ y. n (y ∙ sym (M.roots j p.0))) (λ y. m (y ∙ sym (M.roots k q.0))) (omega arith)
            in
            omega arith;
      }

  pub written_mild : {P : Type 0} (log : List (Entry P)) → Written S log → Written Z log
  written_mild log L =
      record {
        rising = L.rising;
        known = λ e m. let a = L.known e m in let b = M.more in omega arith;
        locked = λ e m. M.still e.job e.item (L.known e m) (L.locked e m);
        within = λ e m. let a = L.within e m in let b = M.times e.job e.item in omega arith;
        released = λ e m k h a r.
            let p = M.only k e.item h a in
            let b = M.times e.job e.item in
            let c = M.times k e.item in
            let i = L.released e m k p.0 p.1 (omega arith) in
            omega arith;
        young = λ e m. let a = L.young e m in let b = M.time in omega arith;
      }

module _ (up : ℕ → ℕ) (j d : ℕ) (S Z : Scene) (M : Lock up j d S Z) (K : Kept up S) where
  low : (k : ℕ) → k < Z.count → k < S.count
  low k h = let e = M.same_count in omega arith

  at_here : (k x : ℕ) → (k ≡ j) × (x ≡ d) → Z.at k x ≡ S.now
  at_here k x h =
      subst (λ (y : ℕ). Z.at y x ≡ S.now) (sym h.0) (subst (λ (y : ℕ). Z.at j y ≡ S.now) (sym h.1) M.stamped)

  -- what a job has now, it had before, earlier, or it is new
  record Old (k x : ℕ) : Type 0 where
    had : S.has k x ≡ true
    same : Z.at k x ≡ S.at k x
    before : S.at k x < S.now

  cases : (k x : ℕ) → k < Z.count → Z.has k x ≡ true → ((k ≡ j) × (x ≡ d)) ⊎ Old k x
  cases k x h a = elim (here? j d k x) [
    | inl e ↦ inl e
    | inr n ↦ (let o = M.other k x n in
        let b = sym o.0 ∙ a in
        inr (record { had = b; same = o.2; before = K.past k x (low k h) b }))
  ]

  past_now : (k x : ℕ) → k < Z.count → Z.has k x ≡ true → Z.at k x ≤ S.now
  past_now k x h a = elim (cases k x h a) [
    | inl e ↦ (let q = at_here k x e in omega arith)
    | inr o ↦ (let p = o.before in let q = o.same in omega arith)
  ]

  -- what is held now was held before, or it is new
  held_cases : (k x : ℕ) → Z.holds k x ≡ true → ((k ≡ j) × (x ≡ d)) ⊎ ((S.holds k x ≡ true) × (Z.at k x ≡ S.at k x))
  held_cases k x a = elim (here? j d k x) [
    | inl e ↦ inl e
    | inr n ↦ (let o = M.other k x n in inr (sym o.1 ∙ a, o.2))
  ]

  latest_lock : (i k x : ℕ) → i < Z.count → k < Z.count → Z.holds i x ≡ true → Z.has k x ≡ true → Z.at k x ≤ Z.at i x
  latest_lock i k x hi hk a b = go (held_cases i x a) (cases k x hk b)
    where
      go
          : ((i ≡ j) × (x ≡ d)) ⊎ ((S.holds i x ≡ true) × (Z.at i x ≡ S.at i x)) → ((k ≡ j) × (x ≡ d)) ⊎ Old k x
          → Z.at k x ≤ Z.at i x
      go (inl e) c = let p = past_now k x hk b in let q = at_here i x e in omega arith
      go (inr h) (inl e) = absurd (clash (subst (λ (y : ℕ). S.holds i y ≡ true) e.1 h.0) (M.free i (low i hi)))
      go (inr h) (inr o) =
          let p = K.latest i k x (low i hi) (low k hk) h.0 o.had in
          let q = h.1 in
          let r = o.same in
          omega arith

  apart_lock : (i k x : ℕ) → i < Z.count → k < Z.count → Z.has i x ≡ true → Z.has k x ≡ true → Z.at i x ≡ Z.at k x → i ≡ k
  apart_lock i k x hi hk a b r = go (cases i x hi a) (cases k x hk b)
    where
      go : ((i ≡ j) × (x ≡ d)) ⊎ Old i x → ((k ≡ j) × (x ≡ d)) ⊎ Old k x → i ≡ k
      go (inl e) (inl f) = e.0 ∙ sym f.0
      go (inl e) (inr o) = absurd (let p = at_here i x e in let q = o.same in let s = o.before in omega arith)
      go (inr o) (inl e) = absurd (let p = at_here k x e in let q = o.same in let s = o.before in omega arith)
      go (inr o) (inr p) = K.apart i k x (low i hi) (low k hk) o.had p.had (sym o.same ∙ r ∙ p.same)

  module _ (climbs : (k x : ℕ) → k < S.count → S.has k x ≡ true → (x ≡ S.root k) ⊎ (S.has k (up x) ≡ true)) where
    follows_lock
        : (i k x : ℕ) → i < Z.count → k < Z.count → Z.has i x ≡ true → Z.has k x ≡ true → Z.has i (up x) ≡ true
        → Z.has k (up x) ≡ true → ¬ (x ≡ S.root i) → ¬ (x ≡ S.root k) → Z.at i (up x) < Z.at k (up x) → Z.at i x < Z.at k x
    follows_lock i k x hi hk a b a' b' n m r =
        go (cases i x hi a) (cases k x hk b) (cases i (up x) hi a') (cases k (up x) hk b')
      where
        go
            : ((i ≡ j) × (x ≡ d)) ⊎ Old i x → ((k ≡ j) × (x ≡ d)) ⊎ Old k x → ((i ≡ j) × (up x ≡ d)) ⊎ Old i (up x)
            → ((k ≡ j) × (up x ≡ d)) ⊎ Old k (up x) → Z.at i x < Z.at k x
        go (inl e) (inl f) p q =
            absurd (let s = subst (λ (y : ℕ). Z.at y (up x) < Z.at k (up x)) (e.0 ∙ sym f.0) r in omega arith)
        go (inr o) (inl f) p q = let s = at_here k x f in let u = o.before in let v = o.same in omega arith
        go c (inr o) p (inl f) = absurd (elim (climbs k x (low k hk) o.had) [
          | inl e ↦ m e
          | inr h ↦ clash h (subst (λ (y : ℕ). S.has k y ≡ false) (sym f.1)
              (subst (λ (y : ℕ). S.has y d ≡ false) (sym f.0) M.fresh))
        ])
        go c (inr o) (inl f) (inr q) = absurd (let s = at_here i (up x) f in let u = q.same in let v = q.before in omega arith)
        go (inl e) (inr o) (inr p) (inr q) = absurd (elim M.asked [
          | inl f ↦ n (e.1 ∙ f ∙ ap S.root (sym e.0))
          | inr h ↦ (let hh = subst (λ (y : ℕ). S.holds y (up x) ≡ true) (sym e.0)
              (subst (λ (y : ℕ). S.holds j (up y) ≡ true) (sym e.1) h) in
              let l = K.latest i k (up x) (low i hi) (low k hk) hh q.had in
              let s = p.same in
              let t = q.same in
              omega arith)
        ])
        go (inr c) (inr o) (inr p) (inr q) =
            let s = p.same in
            let t = q.same in
            let u = c.same in
            let v = o.same in
            let w = K.follows i k x (low i hi) (low k hk) c.had o.had p.had q.had n m (omega arith) in
            omega arith

    pub kept_lock : Kept up Z
    kept_lock =
        record {
          past = λ k x h a. let p = past_now k x h a in let t = M.time in omega arith;
          latest = latest_lock;
          apart = apart_lock;
          follows = λ i k x hi hk a b a' b' n m r.
              follows_lock i k x hi hk a b a' b' (λ e. n (e ∙ sym (M.roots i))) (λ e. m (e ∙ sym (M.roots k))) r;
        }

  pub written_lock : {P : Type 0} (log : List (Entry P)) → Written S log → Written Z log
  written_lock {P} log L =
      record {
        rising = L.rising;
        known = λ e m. let a = L.known e m in let b = M.same_count in omega arith;
        locked = λ e m. let o = M.other e.job e.item (old e m) in o.0 ∙ L.locked e m;
        within = λ e m. let o = M.other e.job e.item (old e m) in let b = o.2 in let a = L.within e m in omega arith;
        released = λ e m k h a r.
            let o = M.other e.job e.item (old e m) in
            let p = o.2 in
            elim (cases k e.item h a) [
              | inl f ↦ (let q = at_here k e.item f in let y = L.young e m in omega arith)
              | inr g ↦ (let s = g.same in
                  let i = L.released e m k (low k h) g.had (omega arith) in
                  omega arith)
            ];
        young = λ e m. let a = L.young e m in let t = M.time in omega arith;
      }
    where
      -- no entry is of the new lock
      old : (e : Entry P) → Mem e log → ¬ ((e.job ≡ j) × (e.item ≡ d))
      old e m h =
          clash (L.locked e m)
          (subst (λ (y : ℕ). S.has y e.item ≡ false) (sym h.0)
          (subst (λ (y : ℕ). S.has j y ≡ false) (sym h.1) M.fresh))

module _ {P : Type 0} where
  -- an entry is written last
  pub before_last : (e f x : Entry P) (l : List (Entry P)) → Before e f (l ++ (x ∷ [])) → Before e f l ⊎ (Mem e l × (f ≡ x))
  before_last e f x [] (inl h) = absurd h.1
  before_last e f x [] (inr h) = absurd h
  before_last e f x (y ∷ ys) (inl h) = elim (append_cases f ys (x ∷ []) h.1) [
    | inl m ↦ inl (inl (h.0, m))
    | inr (inl q) ↦ inr (inl h.0, q)
    | inr (inr q) ↦ absurd q
  ]
  before_last e f x (y ∷ ys) (inr h) = elim (before_last e f x ys h) [
    | inl b ↦ inl (inr b)
    | inr m ↦ inr (inr m.0, m.1)
  ]

  pub mem_last : (e x : Entry P) (l : List (Entry P)) → Mem e (l ++ (x ∷ [])) → Mem e l ⊎ (e ≡ x)
  mem_last e x l m = elim (append_cases e l (x ∷ []) m) [ inl a ↦ inl a | inr (inl q) ↦ inr q | inr (inr q) ↦ absurd q ]

  -- the job of x works on the item of x, which it holds, at a time later than all entries
  pub written_work
      : (up : ℕ → ℕ) (S : Scene) (log : List (Entry P)) (x : Entry P) → Kept up S → Written S log → x.job < S.count
      → S.holds x.job x.item ≡ true → S.has x.job x.item ≡ true → S.at x.job x.item ≤ x.stamp
      → ((e : Entry P) → Mem e log → e.stamp < x.stamp) → x.stamp < S.now → Written S (log ++ (x ∷ []))
  written_work up S log x K L hj hold has late new now =
      record {
        rising = λ e f b. elim (before_last e f x log b) [
          | inl h ↦ L.rising e f h
          | inr h ↦ subst (λ (y : Entry P). e.stamp < y.stamp) (sym h.1) (new e h.0)
        ];
        known = λ e m.
            elim (mem_last e x log m) [ inl h ↦ L.known e h | inr q ↦ subst (λ (y : Entry P). y.job < S.count) (sym q) hj ];
        locked = λ e m. elim (mem_last e x log m) [
          | inl h ↦ L.locked e h
          | inr q ↦ subst (λ (y : Entry P). S.has y.job y.item ≡ true) (sym q) has
        ];
        within = λ e m. elim (mem_last e x log m) [
          | inl h ↦ L.within e h
          | inr q ↦ subst (λ (y : Entry P). S.at y.job y.item ≤ y.stamp) (sym q) late
        ];
        released = λ e m. elim (mem_last e x log m) [
          | inl h ↦ L.released e h
          | inr q ↦ subst
              (λ (y : Entry P).
              (k : ℕ) → k < S.count → S.has k y.item ≡ true → S.at y.job y.item < S.at k
              y.item → y.stamp < S.at k y.item)
              (sym q) last
        ];
        young = λ e m.
            elim (mem_last e x log m) [ inl h ↦ L.young e h | inr q ↦ subst (λ (y : Entry P). y.stamp < S.now) (sym q) now ];
      }
    where
      last
          : (k : ℕ) → k < S.count → S.has k x.item ≡ true → S.at x.job x.item < S.at k x.item
          → x.stamp < S.at k x.item
      last k h a r = absurd (let l = K.latest x.job k x.item hj h hold a in omega arith)
