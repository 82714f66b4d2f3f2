-- Every call keeps what holds.
use mathlib.Core.Path.{◌≡◌, refl, sym, ◌∙◌, subst, ap}
use mathlib.Core.List.{List, []}
use mathlib.Core.Option.{Option, none, some}
use mathlib.Core.Bool.{Bool, true, false}
use Prim.Native.Nat.{ℕ, suc, ◌≤◌, ◌<◌}
use native.Mathlib.Omega.{arith}
use native.Mathlib.Decide.{ℕ_discrete}
use lib.IntN.{ℤ}
use lib.Dec.{eqb}
use lib.ListN.{length, get_elem?}
use Rattle.locking.specs.Serial.{Entry, of_job}
use Rattle.locking.proofs.Lists.{eqb_apart}
use Rattle.locking.proofs.Keep.{keep_none}
use Rattle.model.specs.Workload.{Workload, WellFormed, LocalRoot}
use Rattle.model.specs.Table.{Kind, Job, new_job, not_awaited, Told, Steps, Table, HoldsAt, Placed, seat, Call, Answer, Moves}
use Rattle.model.specs.Table.{begin_unfit, begin_no_place, begin_no_type, begin_taken, begins, step_no_place, step_no_job}
use Rattle.model.specs.Table.{steps, collect_none, collect_early, collects, leave_none, leaves_finished, leaves_unfinished}
use Rattle.model.specs.Journal.{Journaled, Journal, change, new_journal, enter, hear_at, after_call, New}
use Rattle.model.proofs.Tree.{local_root}
use Rattle.model.specs.Sound.{Good}
use Rattle.model.proofs.Job.{clash, good_new, good_not_awaited}
use Rattle.model.proofs.Locks.{Scene, Mild, kept_mild, written_mild}
use Rattle.model.proofs.Alone.{Operation, here, Stand}
use Rattle.model.proofs.History.{History, scene, Agrees, HoldsGood, some_same, none_some, change_same, change_other, now_job}
use Rattle.model.proofs.History.{mild_step, stepped}
use Rattle.model.proofs.Step.{step_holds}

pub new_history : History
new_history = record { jobs = λ j. new_job 0 (lib.IntN.ℤ.pos 0); root = λ j. 0; at = λ j d. 0; now = 0; log = [] }

module _ {V : Type 0} (W : Workload) (F : WellFormed W) (K : Kind V) (first : List V) where
  pub new_holds : (m : Table V) → New first m → HoldsGood W K first (new_journal first) m new_history
  unfolding new_history
  new_holds m N =
      record {
        good = λ j i. absurd (omega arith);
        kept = record {
          past = λ j d i e. absurd (omega arith);
          latest = λ j k d i. absurd (omega arith);
          apart = λ j k d i. absurd (omega arith);
          follows = λ j k d i. absurd (omega arith);
        };
        written = record {
          rising = λ e f y. absurd y;
          known = λ e y. absurd y;
          locked = λ e y. absurd y;
          within = λ e y. absurd y;
          released = λ e y. absurd y;
          young = λ e y. absurd y;
        };
        agrees = λ j i. absurd (omega arith);
        values = sym N.values;
        stand = λ d. ap (λ (vs : List V). get_elem? vs d) N.values;
        seen = λ e y. absurd y;
        seated = λ p J e. absurd (none_some (sym (N.empty p) ∙ e));
        known = λ p j e. absurd (none_some e);
        one_place = λ p q j e f. absurd (none_some e);
        low = λ p J e. absurd (none_some (sym (N.empty p) ∙ e));
        present = λ j i. absurd (omega arith);
      }

  module _ (b : Journal V) (m : Table V) (h : History) (H : HoldsGood W K first b m h) where
    -- a finished job's place empties
    emptied
        : (p : ℕ) (J : Job) (n : Table V) → m.places p ≡ some J → J.has_finished ≡ true → n.values ≡ m.values
        → Placed m p none n
        → HoldsGood W K first b n h
    emptied p J n there f e P =
        record {
          good = H.good;
          kept = H.kept;
          written = H.written;
          agrees = H.agrees;
          values = H.values ∙ sym e;
          stand = subst (λ (vs : List V). Stand W K first vs h.log) (sym e) H.stand;
          seen = H.seen;
          seated = λ q I y. H.seated q I (old q I y);
          known = H.known;
          one_place = H.one_place;
          low = λ q I y. H.low q I (old q I y);
          present = λ k i u.
              let s = H.present k i u in (
                s.0,
                s.1,
                P.elsewhere s.0
                    (λ z. clash f (ap (λ (I : Job). I.has_finished) (some_same (sym there ∙ ap m.places (sym z) ∙ s.2)) ∙ u))
                    ∙ s.2,
              );
        }
      where
        old : (q : ℕ) (I : Job) → n.places q ≡ some I → m.places q ≡ some I
        old q I y = elim (ℕ_discrete q p) [
          | yes z ↦ absurd (none_some (sym P.there ∙ ap n.places (sym z) ∙ y))
          | no z ↦ sym (P.elsewhere q z) ∙ y
        ]

    -- an unfinished job goes on, and is no more awaited
    left_behind
        : (p : ℕ) (J : Job) (n : Table V) → m.places p ≡ some J → J.has_finished ≡ false → n.values ≡ m.values
        → Placed m p (some (not_awaited J)) n → (g : History) × HoldsGood W K first b n g
    left_behind p J n there f e P =
        let s = H.seated p J there in
        go s.0 s.1 (subst (λ (I : Job). m.places p ≡ some I) (sym s.2) there)
        (subst (λ (I : Job). Placed m p (some (not_awaited I)) n) (sym s.2) P)
      where
        go
            : (j : ℕ) → b.last_at p ≡ some j → m.places p ≡ some (h.jobs j) → Placed m p (some (not_awaited (h.jobs j))) n
            → (g : History) × HoldsGood W K first b n g
        go j l t Q =
            let I = not_awaited (h.jobs j) in
            let g = now_job h j I h.now h.log in
            let M = mild_step b.count h j I h.now h.log (omega arith) (λ x. refl) (λ x y. y) in
            let hj = H.known p j l in
            let a = H.agrees j hj in (
              g,
              stepped W F K first b m h H p j t l I (some I) n g b.job Q (λ y z. sym (some_same z)) (λ y. refl) (λ k. refl)
                  (λ k. refl)
                  (good_not_awaited W F (h.root j) (h.jobs j) (H.good j hj))
                  (kept_mild W.up (scene b.count h) (scene b.count g) M H.kept)
                  (written_mild W.up (scene b.count h) (scene b.count g) M h.log H.written)
                  (record {
                    type = a.type;
                    state = a.state;
                    register = a.register;
                    has_finished = a.has_finished;
                    path = a.path;
                    works = a.works;
                  })
                  (λ k i. refl) (λ k i. refl) (subst (λ (vs : List V). Stand W K first vs h.log) (sym e) H.stand) H.seen
                  b.values (H.values ∙ sym e),
            )

    begun
        : (p t : ℕ) (a : ℤ) (n : Table V) → p < 16 → t < W.types → m.places p ≡ none → n.values ≡ m.values
        → Placed m p (some (new_job t a)) n → (g : History) × HoldsGood W K first (enter W K b p t a) n g
    begun p t a n hp ht free e P = (
      g,
      record {
        good = λ k i. elim (ℕ_discrete k N) [
          | yes q ↦ subst (λ (k : ℕ). Good W (g.root k) (g.jobs k)) (sym q)
              (subst (λ (y : ℕ). Good W y (g.jobs N)) (sym (change_same h.root N r.0))
              (subst (Good W r.0) (sym job_new) (good_new W F t a r.0 ht r.1)))
          | no q ↦ subst (λ (y : ℕ). Good W y (g.jobs k)) (sym (change_other h.root N r.0 k q))
              (subst (Good W (h.root k)) (sym (job_old k q)) (H.good k (omega arith)))
        ];
        kept = kept_mild W.up S Z mild H.kept;
        written = written_mild W.up S Z mild h.log H.written;
        agrees = λ k i. elim (ℕ_discrete k N) [
          | yes q ↦ subst (λ (k : ℕ). Agrees W (change b.job N x k) (g.jobs k) (of_job k h.log)) (sym q)
              (subst (λ (y : Journaled). Agrees W y (g.jobs N) (of_job N h.log)) (sym (change_same b.job N x))
              (subst (λ (I : Job). Agrees W x I (of_job N h.log)) (sym job_new)
              (subst (λ (l : List (Entry Operation)). Agrees W x (new_job t a) l) (sym none_yet)
              (record { type = refl; state = refl; register = refl; has_finished = refl; path = here 0 false a; works = refl }))))
          | no q ↦ subst (λ (y : Journaled). Agrees W y (g.jobs k) (of_job k h.log)) (sym (change_other b.job N x k q))
              (subst (λ (I : Job). Agrees W (b.job k) I (of_job k h.log)) (sym (job_old k q)) (H.agrees k (omega arith)))
        ];
        values = H.values ∙ sym e;
        stand = subst (λ (vs : List V). Stand W K first vs h.log) (sym e) H.stand;
        seen = H.seen;
        seated = λ q I y. elim (ℕ_discrete q p) [
          | yes z ↦ (N, last_new q z, job_new ∙ some_same (sym P.there ∙ ap n.places (sym z) ∙ y))
          | no z ↦ (let s = H.seated q I (sym (P.elsewhere q z) ∙ y) in
              let i = H.known q s.0 s.1 in
              (s.0, last_old q z ∙ s.1, job_old s.0 (omega arith) ∙ s.2))
        ];
        known = λ q k y. elim (ℕ_discrete q p) [
          | yes z ↦ (let w : k ≡ N = some_same (sym y ∙ last_new q z) in omega arith)
          | no z ↦ (let i = H.known q k (sym (last_old q z) ∙ y) in omega arith)
        ];
        one_place = λ q o k y z. place_one q o k y z (ℕ_discrete q p) (ℕ_discrete o p);
        low = λ q I y. elim (ℕ_discrete q p) [
          | yes z ↦ subst (λ (w : ℕ). w < 16) (sym z) hp
          | no z ↦ H.low q I (sym (P.elsewhere q z) ∙ y)
        ];
        present = λ k i u. elim (ℕ_discrete k N) [
          | yes q ↦ (p, last_new p refl ∙ ap some (sym q), P.there ∙ ap some (sym (ap g.jobs q ∙ job_new)))
          | no q ↦ (let s = H.present k (omega arith) (sym (ap (λ (I : Job). I.has_finished) (job_old k q)) ∙ u) in
              let w : ¬ (s.0 ≡ p) = λ z. none_some (sym free ∙ ap m.places (sym z) ∙ s.2) in
              (s.0, last_old s.0 w ∙ s.1, P.elsewhere s.0 w ∙ s.2 ∙ ap some (sym (job_old k q))))
        ];
      },
    )
      where
        N : ℕ
        N = b.count

        r : (r : ℕ) × LocalRoot W t r
        r = local_root W F t ht

        x : Journaled
        x = record { type = t; argument = a; state = 0; register = a; has_finished = false; works = [] }

        g : History
        g =
            record {
              jobs = change h.jobs N (new_job t a);
              root = change h.root N r.0;
              at = h.at;
              now = h.now;
              log = h.log;
            }

        job_new : g.jobs N ≡ new_job t a
        job_new = change_same h.jobs N (new_job t a)

        job_old : (k : ℕ) → ¬ (k ≡ N) → g.jobs k ≡ h.jobs k
        job_old k q = change_other h.jobs N (new_job t a) k q

        last_new : (q : ℕ) → q ≡ p → change b.last_at p (some N) q ≡ some N
        last_new q z = subst (λ (w : ℕ). change b.last_at p (some N) w ≡ some N) (sym z) (change_same b.last_at p (some N))

        last_old : (q : ℕ) → ¬ (q ≡ p) → change b.last_at p (some N) q ≡ b.last_at q
        last_old q z = change_other b.last_at p (some N) q z

        S : Scene
        S = scene N h

        Z : Scene
        Z = scene (suc N) g

        was
            : (k y : ℕ) → (f : Job → ℕ → Bool) → f (new_job t a) y ≡ false → k < suc N → f (g.jobs k) y ≡ true
            → (k < N) × (f (h.jobs k) y ≡ true)
        was k y f c i d = elim (ℕ_discrete k N) [
          | yes q ↦ absurd (clash d (ap (λ (I : Job). f I y) (ap g.jobs q ∙ job_new) ∙ c))
          | no q ↦ (omega arith, sym (ap (λ (I : Job). f I y) (job_old k q)) ∙ d)
        ]

        mild : Mild S Z
        mild =
            record {
              time = omega arith;
              times = λ k y. refl;
              more = omega arith;
              roots = λ k i. change_other h.root N r.0 k (λ q. absurd (omega arith));
              still = λ k y i c. ap (λ (I : Job). I.ever_locked y) (job_old k (λ q. absurd (omega arith))) ∙ c;
              only = λ k y i c. was k y (λ (I : Job). I.ever_locked) refl i c;
              fewer = λ k y i c. was k y (λ (I : Job). I.held) refl i c;
            }

        none_yet : of_job N h.log ≡ []
        none_yet =
            keep_none (λ (y : Entry Operation). eqb y.job N) h.log
            (λ y i. eqb_apart y.job N (λ q. absurd (let z = H.written.known y i in omega arith)))

        place_one
            : (q o k : ℕ) → change b.last_at p (some N) q ≡ some k → change b.last_at p (some N) o ≡ some k → Dec (q ≡ p)
            → Dec (o ≡ p) → q ≡ o
        place_one q o k y z (yes c) (yes d) = c ∙ sym d
        place_one q o k y z (yes c) (no d) = absurd
            (let w : k ≡ N = some_same (sym y ∙ last_new q c) in let i = H.known o k (sym (last_old o d) ∙ z) in omega arith)
        place_one q o k y z (no c) (yes d) = absurd
            (let w : k ≡ N = some_same (sym z ∙ last_new o d) in let i = H.known q k (sym (last_old q c) ∙ y) in omega arith)
        place_one q o k y z (no c) (no d) = H.one_place q o k (sym (last_old q c) ∙ y) (sym (last_old o d) ∙ z)

    took_step
        : W.items ≤ length m.values → (p : ℕ) (J J' : Job) (a : Told) (n : Table V) → m.places p ≡ some J
        → J.has_finished ≡ false
        → Steps W K (HoldsAt m) m.values J a n.values J' → Placed m p (seat J') n
        → (g : History) × HoldsGood W K first (hear_at W K b (b.last_at p) a) n g
    took_step room p J J' a n there f st P =
        let s = H.seated p J there in
        let r =
        step_holds W F K first b m h H p s.0 (there ∙ ap some (sym s.2)) s.1 (H.known p s.0 s.1)
        (ap (λ (I : Job). I.has_finished) s.2 ∙ f) room a n.values J' n refl
        (subst (λ (I : Job). Steps W K (HoldsAt m) m.values I a n.values J') (sym s.2) st) P
        in
        (r.0, subst (λ (o : Option ℕ). HoldsGood W K first (hear_at W K b o a) n r.0) (sym s.1) r.1)

    pub call_holds
        : ((p : ℕ) (J : Job) → m.places p ≡ some J → W.items ≤ length m.values) → (c : Call) (a : Answer) (n : Table V)
        → Moves W K m c a n → (g : History) × HoldsGood W K first (after_call W K b c a) n g
    call_holds R _ _ _ (begin_unfit p t a i) = (h, H)
    call_holds R _ _ _ (begin_no_place p t a i j) = (h, H)
    call_holds R _ _ _ (begin_no_type p t a i j k) = (h, H)
    call_holds R _ _ _ (begin_taken p t a J i j k l) = (h, H)
    call_holds R _ _ _ (begins p t a n i j k l e P) = begun p t a n j k l e P
    call_holds R _ _ _ (step_no_place p i) = (h, H)
    call_holds R _ _ _ (step_no_job p i j) = (h, H)
    call_holds R _ _ _ (steps p J J' a n i there f st P) = took_step (R p J there) p J J' a n there f st P
    call_holds R _ _ _ (collect_none p i) = (h, H)
    call_holds R _ _ _ (collect_early p J i j k) = (h, H)
    call_holds R _ _ _ (collects p J n there i f e P) = (h, emptied p J n there f e P)
    call_holds R _ _ _ (leave_none p i) = (h, H)
    call_holds R _ _ _ (leaves_finished p J n there i f e P) = (h, emptied p J n there f e P)
    call_holds R _ _ _ (leaves_unfinished p J n there i f e P) = left_behind p J n there f e P
