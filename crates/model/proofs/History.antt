-- What holds of the table, the journal and the history of locks and works after every call.
use mathlib.Core.Path.{◌≡◌, refl, sym, ◌∙◌, subst, ap}
use mathlib.Core.List.{List}
use mathlib.Core.Option.{Option, none, some}
use mathlib.Core.Bool.{true, false, cond}
use Prim.Native.Nat.{ℕ, ◌≤◌, ◌<◌}
use native.Mathlib.Omega.{arith}
use native.Mathlib.Decide.{ℕ_discrete}
use lib.Dec.{eqb}
use Rattle.locking.specs.Serial.{Entry, of_job}
use Rattle.locking.proofs.Lists.{by_test, eqb_same, same_eqb, eqb_apart}
use Rattle.model.specs.Workload.{Workload, WellFormed}
use Rattle.model.specs.Table.{Kind, Job, Table, Placed}
use Rattle.model.specs.Journal.{Journaled, Journal, change}
use Rattle.model.specs.Sound.{Good}
use Rattle.model.proofs.Job.{clash}
use Rattle.model.proofs.Locks.{Scene, Kept, Written, Mild}
use Rattle.model.proofs.Alone.{Operation, works_of, PathOf, AllSeen, Stand}

-- What the proof keeps beside the table: the last record of each job, its local root, when it locked what, and the log of works.
-- The clock `now` rises at each lock and each work.
pub record History : Type 0 where
  pub jobs : ℕ → Job
  pub root : ℕ → ℕ
  pub at : ℕ → ℕ → ℕ
  pub now : ℕ
  pub log : List (Entry Operation)

abbrev pub scene : ℕ → History → Scene
scene N h =
    record {
      count = N;
      root = h.root;
      has = λ j d. (h.jobs j).ever_locked d;
      holds = λ j d. (h.jobs j).held d;
      at = h.at;
      now = h.now;
    }

-- What the journal has of a job is what the table has, and its works led there.
pub record Agrees (W : Workload) (x : Journaled) (J : Job) (es : List (Entry Operation)) : Type 0 where
  pub type : x.type ≡ J.type
  pub state : x.state ≡ J.state
  pub register : x.register ≡ J.register
  pub has_finished : x.has_finished ≡ J.has_finished
  pub path : PathOf W x.type 0 false x.argument es x.state J.has_worked x.register
  pub works : x.works ≡ works_of es

-- What holds of journal, table and history after every list of calls.
pub record HoldsGood {V : Type 0} (W : Workload) (K : Kind V) (first : List V) (b : Journal V) (m : Table V) (h : History)
    : Type 0 where
  pub good : (j : ℕ) → j < b.count → Good W (h.root j) (h.jobs j)
  pub kept : Kept W.up (scene b.count h)
  pub written : Written (scene b.count h) h.log
  pub agrees : (j : ℕ) → j < b.count → Agrees W (b.job j) (h.jobs j) (of_job j h.log)
  pub values : b.values ≡ m.values
  pub stand : Stand W K first m.values h.log
  pub seen : AllSeen W K first h.log
  -- what stands at a place is the last job entered there
  pub seated : (p : ℕ) (J : Job) → m.places p ≡ some J → (j : ℕ) × (b.last_at p ≡ some j) × (h.jobs j ≡ J)
  pub known : (p j : ℕ) → b.last_at p ≡ some j → j < b.count
  pub one_place : (p q j : ℕ) → b.last_at p ≡ some j → b.last_at q ≡ some j → p ≡ q
  pub low : (p : ℕ) (J : Job) → m.places p ≡ some J → p < 16
  -- an unfinished job stands at its place
  pub present
      : (j : ℕ) → j < b.count → (h.jobs j).has_finished ≡ false
      → (p : ℕ) × (b.last_at p ≡ some j) × (m.places p ≡ some (h.jobs j))

module _ {A : Type 0} where
  pub some_same : {x y : A} → some x ≡ some y → x ≡ y
  some_same e = cc

  pub none_some : {x : A} → none ≡ some x → ⊥
  none_some e = let z : ◌≡◌ {A = ℕ} 0 1 = cc in omega arith

  pub change_same : (f : ℕ → A) (j : ℕ) (x : A) → change f j x j ≡ x
  change_same f j x = rw (eqb_same j j refl)

  pub change_other : (f : ℕ → A) (j : ℕ) (x : A) (k : ℕ) → ¬ (k ≡ j) → change f j x k ≡ f k
  change_other f j x k n = rw (eqb_apart k j n)

  -- what holds of x at j, and of f at all other numbers, holds of the changed f
  pub by_change
      : (P : ℕ → A → Type 0) (f : ℕ → A) (j : ℕ) (x : A) → P j x → ((k : ℕ) → ¬ (k ≡ j) → P k (f k)) → (k : ℕ)
      → P k (change f j x k)
  by_change P f j x a b k =
      by_test (λ v. P k (cond v x (f k))) (eqb k j) (λ e. subst (λ (y : ℕ). P y x) (sym (same_eqb k j e)) a)
      (λ e. b k (λ q. clash (eqb_same k j q) e))

-- the job j is now J, at the time t, and the log is l
abbrev pub now_job : History → ℕ → Job → ℕ → List (Entry Operation) → History
now_job h j J t l = record { jobs = change h.jobs j J; root = h.root; at = h.at; now = t; log = l }

-- a job's step that locks nothing
pub mild_step
    : (N : ℕ) (h : History) (j : ℕ) (J : Job) (t : ℕ) (l : List (Entry Operation)) → h.now ≤ t
    → ((x : ℕ) → J.ever_locked x ≡ (h.jobs j).ever_locked x) → ((x : ℕ) → J.held x ≡ true → (h.jobs j).held x ≡ true)
    → Mild (scene N h) (scene N (now_job h j J t l))
mild_step N h j J t l q a b =
    record {
      time = q;
      times = λ k x. refl;
      more = omega arith;
      roots = λ k i. refl;
      still = λ k x i e. same k x ∙ e;
      only = λ k x i e. (i, sym (same k x) ∙ e);
      fewer = λ k x i e.
          (i, by_change (λ (k : ℕ) (I : Job). I.held x ≡ true → (h.jobs k).held x ≡ true) h.jobs j J (b x) (λ k n e. e) k e);
    }
  where
    same : (k x : ℕ) → (change h.jobs j J k).ever_locked x ≡ (h.jobs k).ever_locked x
    same k x = by_change (λ (k : ℕ) (I : Job). I.ever_locked x ≡ (h.jobs k).ever_locked x) h.jobs j J (a x) (λ k n. refl) k

module _ {V : Type 0} (W : Workload) (F : WellFormed W) (K : Kind V) (first : List V) (b : Journal V) (m : Table V) (h : History)
    (H : HoldsGood W K first b m h) where
  -- the job j, at the place p, takes a step; y stands at the place afterwards
  module _ (p j : ℕ) (there : m.places p ≡ some (h.jobs j)) (last : b.last_at p ≡ some j) where
    pub stepped
        : (J : Job) (y : Option Job) (n : Table V) (g : History) (jb : ℕ → Journaled) → Placed m p y n
        → ((I : Job) → y ≡ some I → I ≡ J) → (J.has_finished ≡ false → y ≡ some J)
        → ((k : ℕ) → g.jobs k ≡ change h.jobs j J k) → ((k : ℕ) → g.root k ≡ h.root k)
        → Good W (h.root j) J → Kept W.up (scene b.count g) → Written (scene b.count g) g.log
        → Agrees W (jb j) J (of_job j g.log) → ((k : ℕ) → ¬ (k ≡ j) → jb k ≡ b.job k)
        → ((k : ℕ) → ¬ (k ≡ j) → of_job k g.log ≡ of_job k h.log)
        → Stand W K first n.values g.log → AllSeen W K first g.log → (vs : List V) → vs ≡ n.values
        → HoldsGood W K first (record { count = b.count; job = jb; last_at = b.last_at; values = vs }) n g
    stepped J y n g jb P yes_J yes_y jobs_are roots good_J kept written agree others logs stand seen vs same =
        record {
          good = λ k i.
              subst (λ (r : ℕ). Good W r (g.jobs k)) (sym (roots k))
              (subst (Good W (h.root k)) (sym (jobs_are k))
              (by_change (λ (k : ℕ) (I : Job). k < b.count → Good W (h.root k) I) h.jobs j J (λ i. good_J)
              (λ k n i. H.good k i) k i));
          kept = kept;
          written = written;
          agrees = λ k i. elim (ℕ_discrete k j) [
            | yes e ↦ subst (λ (k : ℕ). Agrees W (jb k) (g.jobs k) (of_job k g.log)) (sym e)
                (subst (λ (I : Job). Agrees W (jb j) I (of_job j g.log)) (sym mine) agree)
            | no q ↦ subst (λ (x : Journaled). Agrees W x (g.jobs k) (of_job k g.log)) (sym (others k q))
                (subst (λ (I : Job). Agrees W (b.job k) I (of_job k g.log)) (sym (theirs k q))
                (subst (λ (l : List (Entry Operation)). Agrees W (b.job k) (h.jobs k) l) (sym (logs k q)) (H.agrees k i)))
          ];
          values = same;
          stand = stand;
          seen = seen;
          seated = λ q I e. elim (ℕ_discrete q p) [
            | yes f ↦ (
              j,
              subst (λ (z : ℕ). b.last_at z ≡ some j) (sym f) last,
              mine ∙ sym (yes_J I (sym P.there ∙ subst (λ (z : ℕ). n.places z ≡ some I) f e)),
            )
            | no f ↦ (let s = H.seated q I (sym (P.elsewhere q f) ∙ e) in
                (s.0, s.1, theirs s.0 (λ z. f (H.one_place q p j (s.1 ∙ ap some z) last)) ∙ s.2))
          ];
          known = H.known;
          one_place = H.one_place;
          low = λ q I e. elim (ℕ_discrete q p) [
            | yes f ↦ subst (λ (z : ℕ). z < 16) (sym f) (H.low p (h.jobs j) there)
            | no f ↦ H.low q I (sym (P.elsewhere q f) ∙ e)
          ];
          present = λ k i u. elim (ℕ_discrete k j) [
            | yes f ↦ (
              p,
              last ∙ ap some (sym f),
              P.there ∙ yes_y (sym (ap (λ (I : Job). I.has_finished) (ap g.jobs f ∙ mine)) ∙ u) ∙ ap some
                  (sym (ap g.jobs f ∙ mine)),
            )
            | no f ↦ (let s = H.present k i (sym (ap (λ (I : Job). I.has_finished) (theirs k f)) ∙ u) in (
              s.0,
              s.1,
              P.elsewhere s.0 (λ z. f (some_same (sym s.1 ∙ ap b.last_at z ∙ last))) ∙ s.2 ∙ ap some
                  (sym (theirs k f)),
            ))
          ];
        }
      where
        mine : g.jobs j ≡ J
        mine = jobs_are j ∙ change_same h.jobs j J

        theirs : (k : ℕ) → ¬ (k ≡ j) → g.jobs k ≡ h.jobs k
        theirs k q = jobs_are k ∙ change_other h.jobs j J k q
