-- One step of a job keeps what holds.
use mathlib.Core.Path.{◌≡◌, refl, sym, ◌∙◌, subst, ap, ap₂}
use mathlib.Core.List.{List, [], ◌∷◌, ◌++◌}
use mathlib.Core.Logic.{inl, inr}
use mathlib.Core.Option.{Option, none, some}
use mathlib.Core.Bool.{Bool, true, false, cond, not, ◌&&◌}
use Prim.Native.Nat.{ℕ, zero, suc, ◌≤◌, ◌<◌}
use native.Mathlib.Omega.{arith}
use lib.IntN.{ℤ}
use lib.Dec.{eqb}
use lib.ListN.{length, get_elem?, set}
use Rattle.locking.specs.Serial.{Entry, of_job, until}
use Rattle.locking.proofs.Lists.{by_test, eqb_same, eqb_apart}
use Rattle.locking.proofs.Keep.{keep_append, keep_yes, keep_not}
use Rattle.model.specs.Workload.{Workload, WellFormed, Takes}
use Rattle.model.specs.Table.{Kind, Job, item_of, Without, With, Wanted, Works, holding, locking, with_register, in_state}
use Rattle.model.specs.Table.{ended, Told, released, worked, locked, waiting, gone, finished, Steps, releases, works, locks}
use Rattle.model.specs.Table.{waits, goes, closes, finishes, Table, HoldsAt, Placed, seat}
use Rattle.model.specs.Journal.{Work, work_of, Journaled, Journal, change, do_work, hear}
use Rattle.model.specs.Sound.{Passed, Closing, Good}
use Rattle.model.proofs.Job.{clash, test, without_less, good_ended, good_held, good_work, good_go, good_lock, asks}
use Rattle.model.proofs.Locks.{Scene, Kept, Mild, Lock, kept_mild, written_mild, kept_lock, written_lock, written_work, mem_last}
use Rattle.model.proofs.Alone.{Operation, works_of_append, until_append, until_here, path_work, path_go, Seen, values_after}
use Rattle.model.proofs.Alone.{AllSeen, Stand, stand_work}
use Rattle.model.proofs.History.{History, scene, Agrees, HoldsGood, some_same, none_some, change_same, change_other, by_change}
use Rattle.model.proofs.History.{now_job, mild_step, stepped}

none_there : {A : Type 0} (l : List A) (i : ℕ) → i < length l → get_elem? l i ≡ none → ⊥
none_there [] i h e = absurd (omega arith)
none_there (x ∷ xs) zero h e = none_some (sym e)
none_there (x ∷ xs) (suc i) h e = none_there xs i (omega arith) e

pub seat_some : (J I : Job) → seat J ≡ some I → I ≡ J
seat_some J I =
    by_test (λ v. cond v none (some J) ≡ some I → I ≡ J) (J.has_finished && not J.awaited) (λ e f. absurd (none_some f))
    (λ e f. sym (some_same f))

pub seat_open : (J : Job) → J.has_finished ≡ false → seat J ≡ some J
seat_open J e = ap (λ (v : Bool). cond (v && not J.awaited) none (some J)) e

of_job_mine : (l : List (Entry Operation)) (e : Entry Operation) → of_job e.job (l ++ (e ∷ [])) ≡ of_job e.job l ++ (e ∷ [])
of_job_mine l e =
    keep_append (λ (y : Entry Operation). eqb y.job e.job) l (e ∷ [])
    ∙ ap (λ (r : List (Entry Operation)). of_job e.job l ++ r)
    (keep_yes (λ (y : Entry Operation). eqb y.job e.job) e [] (eqb_same e.job e.job refl))

append_empty : (l : List (Entry Operation)) → l ++ [] ≡ l
append_empty [] = refl
append_empty (x ∷ xs) = ap (λ (r : List (Entry Operation)). x ∷ r) (append_empty xs)

of_job_other : (l : List (Entry Operation)) (e : Entry Operation) (k : ℕ) → ¬ (k ≡ e.job) → of_job k (l ++ (e ∷ [])) ≡ of_job k l
of_job_other l e k n =
    keep_append (λ (y : Entry Operation). eqb y.job k) l (e ∷ [])
    ∙ ap (λ (r : List (Entry Operation)). of_job k l ++ r)
    (keep_not (λ (y : Entry Operation). eqb y.job k) e [] (eqb_apart e.job k (λ q. n (sym q))))
    ∙ append_empty (of_job k l)

module _ {V : Type 0} (W : Workload) (F : WellFormed W) (K : Kind V) (first : List V) (b : Journal V) (m : Table V) (h : History)
    (H : HoldsGood W K first b m h)
    (p j : ℕ) (there : m.places p ≡ some (h.jobs j)) (last : b.last_at p ≡ some j) (hj : j < b.count)
    (unfinished : (h.jobs j).has_finished ≡ false) where
  Now : Told → Table V → Type 0
  Now a n = (g : History) × HoldsGood W K first (hear W K b j (b.job j) a) n g

  good_j : Good W (h.root j) (h.jobs j)
  good_j = H.good j hj

  agrees_j : Agrees W (b.job j) (h.jobs j) (of_job j h.log)
  agrees_j = H.agrees j hj

  -- the log, the values and the times stay
  quiet
      : (J : Job) (jb : ℕ → Journaled) (n : Table V) → Placed m p (seat J) n → n.values ≡ m.values
      → ((x : ℕ) → J.ever_locked x ≡ (h.jobs j).ever_locked x) → ((x : ℕ) → J.held x ≡ true → (h.jobs j).held x ≡ true)
      → Good W (h.root j) J → Agrees W (jb j) J (of_job j h.log) → ((k : ℕ) → ¬ (k ≡ j) → jb k ≡ b.job k)
      → HoldsGood W K first (record { count = b.count; job = jb; last_at = b.last_at; values = b.values }) n
      (now_job h j J h.now h.log)
  quiet J jb n P e s f G A o =
      let M = mild_step b.count h j J h.now h.log (omega arith) s f in
      stepped W F K first b m h H p j there last J (seat J) n (now_job h j J h.now h.log) jb P (λ I. seat_some J I)
      (seat_open J)
      (λ k. refl) (λ k. refl) G
      (kept_mild W.up (scene b.count h) (scene b.count (now_job h j J h.now h.log)) M H.kept)
      (written_mild W.up (scene b.count h) (scene b.count (now_job h j J h.now h.log)) M h.log
      H.written) A o (λ k i. refl)
      (subst (λ (vs : List V). Stand W K first vs h.log) (sym e) H.stand) H.seen b.values (H.values ∙ sym e)

  released_now
      : (d : ℕ) (u : ℕ → Bool) (n : Table V) → n.values ≡ m.values → Without (h.jobs j).held d u
      → (¬ Closing W (h.jobs j) → Passed W (h.jobs j).type (h.jobs j).ever_locked (h.jobs j).done d)
      → Placed m p (seat (holding (h.jobs j) u)) n → Now (released d) n
  unfolding Now
  released_now d u n e w c P =
      let a = agrees_j in (
        now_job h j (holding (h.jobs j) u) h.now h.log,
        quiet (holding (h.jobs j) u) b.job n P e (λ x. refl) (λ x y. without_less x w y)
            (good_held W F (h.root j) (h.jobs j) good_j d u unfinished w c)
            (record {
              type = a.type;
              state = a.state;
              register = a.register;
              has_finished = a.has_finished;
              path = a.path;
              works = a.works;
            })
            (λ k i. refl),
      )

  gone_now
      : (s : ℕ) (u : ℕ → Bool) (n : Table V) → n.values ≡ m.values → (h.jobs j).has_worked ≡ true
      → Takes W (h.jobs j).type (h.jobs j).state (h.jobs j).register s
      → Good W (h.root j) (in_state (h.jobs j) s u) → Placed m p (seat (in_state (h.jobs j) s u)) n → Now (gone s) n
  unfolding Now
  gone_now s u n e f t G P = (
    now_job h j (in_state (h.jobs j) s u) h.now h.log,
    quiet (in_state (h.jobs j) s u) (change b.job j x) n P e (λ y. refl) (λ y i. i) G
        (subst (λ (z : Journaled). Agrees W z (in_state (h.jobs j) s u) (of_job j h.log)) (sym (change_same b.job j x))
        (record {
          type = a.type;
          state = refl;
          register = a.register;
          has_finished = a.has_finished;
          path = path_go W (b.job j).type s a.path f takes;
          works = a.works;
        }))
        (λ k i. change_other b.job j x k i),
  )
    where
      a : Agrees W (b.job j) (h.jobs j) (of_job j h.log)
      a = agrees_j

      x : Journaled
      x =
          record {
            type = (b.job j).type;
            argument = (b.job j).argument;
            state = s;
            register = (b.job j).register;
            has_finished = (b.job j).has_finished;
            works = (b.job j).works;
          }

      takes : Takes W (b.job j).type (b.job j).state (b.job j).register s
      takes =
          subst (λ (y : ℕ). Takes W y (b.job j).state (b.job j).register s) (sym a.type)
          (subst (λ (y : ℕ). Takes W (h.jobs j).type y (b.job j).register s) (sym a.state)
          (subst (λ (y : ℤ). Takes W (h.jobs j).type (h.jobs j).state y s) (sym a.register) t))

  finished_now
      : (n : Table V) → n.values ≡ m.values → Good W (h.root j) (ended (h.jobs j)) → Placed m p (seat (ended (h.jobs j))) n
      → Now finished n
  unfolding Now
  finished_now n e G P =
      let a = agrees_j in (
        now_job h j (ended (h.jobs j)) h.now h.log,
        quiet (ended (h.jobs j)) (change b.job j x) n P e (λ y. refl) (λ y i. i) G
            (subst (λ (z : Journaled). Agrees W z (ended (h.jobs j)) (of_job j h.log)) (sym (change_same b.job j x))
            (record {
              type = a.type;
              state = a.state;
              register = a.register;
              has_finished = refl;
              path = a.path;
              works = a.works;
            }))
            (λ k i. change_other b.job j x k i),
      )
    where
      x : Journaled
      x =
          record {
            type = (b.job j).type;
            argument = (b.job j).argument;
            state = (b.job j).state;
            register = (b.job j).register;
            has_finished = true;
            works = (b.job j).works;
          }

  waiting_now : (d q : ℕ) (n : Table V) → n.values ≡ m.values → Placed m p (seat (h.jobs j)) n → Now (waiting d q) n
  unfolding Now
  waiting_now d q n e P = (
    now_job h j (h.jobs j) h.now h.log,
    quiet (h.jobs j) b.job n P e (λ x. refl) (λ x y. y) good_j agrees_j (λ k i. refl),
  )

  -- a job holds an item only at a place
  held_at : (k d : ℕ) → k < b.count → (h.jobs k).held d ≡ true → (q : ℕ) × HoldsAt m q d
  held_at k d i e = elim (test (h.jobs k).has_finished) [
    | inl f ↦ absurd (clash e (((H.good k i).at_end f).1 d))
    | inr f ↦ (let s = H.present k i f in (s.0, (h.jobs k, s.2, e)))
  ]

  locked_now
      : (d : ℕ) (u l : ℕ → Bool) (n : Table V) → n.values ≡ m.values → (h.jobs j).has_worked ≡ false → Wanted W (h.jobs j) d
      → ((q : ℕ) → ¬ HoldsAt m q d) → With (h.jobs j).held d u → With (h.jobs j).ever_locked d l
      → Placed m p (seat (locking (h.jobs j) u l)) n → Now (locked d) n
  unfolding Now
  locked_now d u l n e f w free wu wl P = (
    g,
    stepped W F K first b m h H p j there last J (seat J) n g b.job P (λ I. seat_some J I) (seat_open J) (λ k. refl)
        (λ k. refl)
        (good_lock W F (h.root j) (h.jobs j) good_j d u l unfinished f w wu wl)
        (kept_lock W.up j d S Z lock H.kept
        (λ k x i y. elim ((H.good k i).climbs x y) [ inl q ↦ inl q | inr q ↦ inr q.0 ]))
        (written_lock W.up j d S Z lock H.kept h.log H.written)
        (record {
          type = a.type;
          state = a.state;
          register = a.register;
          has_finished = a.has_finished;
          path = a.path;
          works = a.works;
        })
        (λ k i. refl) (λ k i. refl) (subst (λ (vs : List V). Stand W K first vs h.log) (sym e) H.stand) H.seen
        b.values (H.values ∙ sym e),
  )
    where
      a : Agrees W (b.job j) (h.jobs j) (of_job j h.log)
      a = agrees_j

      J : Job
      J = locking (h.jobs j) u l

      g : History
      g =
          record {
            jobs = change h.jobs j J;
            root = h.root;
            at = change h.at j (change (h.at j) d h.now);
            now = suc h.now;
            log = h.log;
          }

      S : Scene
      S = scene b.count h

      Z : Scene
      Z = scene b.count g

      lock : Lock W.up j d S Z
      lock =
          record {
            job = hj;
            time = refl;
            same_count = refl;
            roots = λ k. refl;
            fresh = w.never_locked;
            free = λ k i.
                elim (test ((h.jobs k).held d)) [ inl y ↦ absurd (let s = held_at k d i y in free s.0 s.1) | inr y ↦ y ];
            asked = elim (asks W F (h.root j) (h.jobs j) good_j d f w) [ inl y ↦ inl y | inr y ↦ inr y.0 ];
            stamped =
                ap (λ (r : ℕ → ℕ). r d) (change_same h.at j (change (h.at j) d h.now)) ∙ change_same (h.at j) d h.now;
            other = λ k x y. (
              by_change (λ (k : ℕ) (I : Job). ¬ ((k ≡ j) × (x ≡ d)) → I.ever_locked x ≡ (h.jobs k).ever_locked x) h.jobs j J
                  (λ i. wl.1 x (λ q. i (refl, q))) (λ k q i. refl) k y,
              by_change (λ (k : ℕ) (I : Job). ¬ ((k ≡ j) × (x ≡ d)) → I.held x ≡ (h.jobs k).held x) h.jobs j J
                  (λ i. wu.1 x (λ q. i (refl, q))) (λ k q i. refl) k y,
              by_change (λ (k : ℕ) (r : ℕ → ℕ). ¬ ((k ≡ j) × (x ≡ d)) → r x ≡ h.at k x) h.at j (change (h.at j) d h.now)
                  (λ i. change_other (h.at j) d h.now x (λ q. i (refl, q))) (λ k q i. refl) k y,
            );
          }

  worked_now
      : (d : ℕ) (z : ℤ) (n : Table V) → (h.jobs j).has_worked ≡ false → (h.jobs j).held (item_of W (h.jobs j)) ≡ true
      → Works W K (h.jobs j).type (h.jobs j).state m.values (h.jobs j).register n.values z
      → Placed m p (seat (with_register (h.jobs j) z)) n → Now (worked d) n
  unfolding Now
  worked_now d z n f held wk P = (
    g,
    subst (λ (o : Option V). HoldsGood W K first (do_work W K b j x o) n g) (sym found_b)
        (stepped W F K first b m h H p j there last J (seat J) n g (change b.job j x') P (λ I. seat_some J I) (seat_open J)
        (λ k. refl) (λ k. refl)
        (good_work W F (h.root j) (h.jobs j) good_j z unfinished f) kept_Z
        (written_work W.up Z h.log e kept_Z (written_mild W.up S Z M h.log H.written) hj holds has
        (let y = H.kept.past j e.item hj has_S in omega arith) (λ i y. H.written.young i y) (omega arith))
        agree (λ k i. change_other b.job j x' k i) (λ k i. of_job_other h.log e k i) stands saw
        (set b.values (W.item t s) r.0)
        (ap (λ (vs : List V). set vs (W.item t s) r.0) H.values ∙ sym works_x.value)),
  )
    where
      a : Agrees W (b.job j) (h.jobs j) (of_job j h.log)
      a = agrees_j

      x : Journaled
      x = b.job j

      t : ℕ
      t = x.type

      s : ℕ
      s = x.state

      J : Job
      J = with_register (h.jobs j) z

      -- the work, by what the journal has
      works_x : Works W K t s m.values x.register n.values z
      works_x =
          subst (λ (y : ℕ). Works W K y s m.values x.register n.values z) (sym a.type)
          (subst (λ (y : ℕ). Works W K (h.jobs j).type y m.values x.register n.values z) (sym a.state)
          (subst (λ (y : ℤ). Works W K (h.jobs j).type (h.jobs j).state m.values y n.values z) (sym a.register) wk))

      v : V
      v = works_x.found

      r : V × ℤ
      r = K.act v (W.code t s) (W.operand t s) x.register

      found_b : get_elem? b.values (W.item t s) ≡ some v
      found_b = ap (λ (vs : List V). get_elem? vs (W.item t s)) H.values ∙ works_x.there

      e : Entry Operation
      e =
          record {
            stamp = h.now;
            job = j;
            item = W.item t s;
            operation = record {
              work = work_of W t s x.register;
              after = r.1;
            };
          }

      x' : Journaled
      x' =
          record {
            type = t;
            argument = x.argument;
            state = s;
            register = r.1;
            has_finished = x.has_finished;
            works = x.works ++ (work_of W t s x.register ∷ []);
          }

      g : History
      g = now_job h j J (suc h.now) (h.log ++ (e ∷ []))

      S : Scene
      S = scene b.count h

      Z : Scene
      Z = scene b.count g

      M : Mild S Z
      M = mild_step b.count h j J (suc h.now) (h.log ++ (e ∷ [])) (omega arith) (λ y. refl) (λ y i. i)

      kept_Z : Kept W.up Z
      kept_Z = kept_mild W.up S Z M H.kept

      same_item : item_of W (h.jobs j) ≡ W.item t s
      same_item = ap₂ (λ (y i : ℕ). W.item y i) (sym a.type) (sym a.state)

      held_x : (h.jobs j).held (W.item t s) ≡ true
      held_x = subst (λ (y : ℕ). (h.jobs j).held y ≡ true) same_item held

      has_S : (h.jobs j).ever_locked (W.item t s) ≡ true
      has_S = good_j.held_locked (W.item t s) held_x

      holds : Z.holds j (W.item t s) ≡ true
      holds = ap (λ (I : Job). I.held (W.item t s)) (change_same h.jobs j J) ∙ held_x

      has : Z.has j (W.item t s) ≡ true
      has = ap (λ (I : Job). I.ever_locked (W.item t s)) (change_same h.jobs j J) ∙ has_S

      agree : Agrees W (change b.job j x' j) J (of_job j (h.log ++ (e ∷ [])))
      agree =
          subst (λ (y : Journaled). Agrees W y J (of_job j (h.log ++ (e ∷ [])))) (sym (change_same b.job j x'))
          (subst (λ (l : List (Entry Operation)). Agrees W x' J l) (sym (of_job_mine h.log e))
          (record {
            type = a.type;
            state = a.state;
            register = sym works_x.register;
            has_finished = a.has_finished;
            path = path_work W t e a.path f refl refl;
            works =
                ap (λ (l : List Work). l ++ (work_of W t s x.register ∷ [])) a.works ∙ sym
                (works_of_append (of_job j h.log) (e ∷ []));
          }))

      stands : Stand W K first n.values (h.log ++ (e ∷ []))
      stands =
          subst (λ (vs : List V). Stand W K first vs (h.log ++ (e ∷ []))) (sym works_x.value)
          (stand_work W K first m.values h.log e v H.stand works_x.there)

      saw : AllSeen W K first (h.log ++ (e ∷ []))
      saw i y = elim (mem_last i e h.log y) [
        | inl q ↦ subst (λ (l : List (Entry Operation)). Seen K (values_after W K first l i.item) i)
            (sym (until_append i h.log (e ∷ []) q)) (H.seen i q)
        | inr q ↦ subst (λ (i : Entry Operation). Seen K
            (values_after W K first (until i.stamp (h.log ++ (e ∷ []))) i.item) i) (sym q)
            (subst (λ (l : List (Entry Operation)). Seen K (values_after W K first l e.item) e)
            (sym (until_here e h.log [] (λ c k o. absurd (let y = H.written.young c k in omega arith))))
            (record { value = v; found = sym (H.stand e.item) ∙ works_x.there; register = refl }))
      ]

  pub step_holds
      : W.items ≤ length m.values → (a : Told) (vs : List V) (J : Job) (n : Table V) → n.values ≡ vs
      → Steps W K (HoldsAt m) m.values (h.jobs j) a vs J
      → Placed m p (seat J) n → (g : History) × HoldsGood W K first (hear W K b j (b.job j) a) n g
  unfolding Now
  step_holds room _ _ _ n e (releases d u l w) P =
      released_now d u n e w (λ c. record { unneeded = l.0.unneeded; below = l.0.passed }) P
  step_holds room _ _ _ n e (works new z c f i (inr wk)) P =
      absurd (none_there m.values (item_of W (h.jobs j))
      (let y = F.names_item (h.jobs j).type (h.jobs j).state good_j.type_ok good_j.state_ok in omega arith) wk.0)
  step_holds room _ _ _ n e (works new z c f i (inl wk)) P =
      worked_now (item_of W (h.jobs j)) z n f i
      (subst (λ (vs : List V). Works W K (h.jobs j).type (h.jobs j).state m.values (h.jobs j).register vs z)
      (sym e) wk) P
  step_holds room _ _ _ n e (locks d u l c f i w free wu wl) P = locked_now d u l n e f w free wu wl P
  step_holds room _ _ _ n e (waits d q c f i w k) P = waiting_now d q n e P
  step_holds room _ _ _ n e (goes s u c f t w) P =
      gone_now s u n e f t (good_go W F (h.root j) (h.jobs j) good_j s u unfinished t w) P
  step_holds room _ _ _ n e (closes d u c f t l w) P = released_now d u n e w (λ k. absurd (k (f, t))) P
  step_holds room _ _ _ n e (finishes c f t k) P = finished_now n e (good_ended W F (h.root j) (h.jobs j) good_j (f, t) k) P
