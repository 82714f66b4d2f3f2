-- While a job is unfinished, some unfinished job can move.
use mathlib.Core.Path.{◌≡◌, refl, sym, ◌∙◌, subst, ap}
use mathlib.Core.List.{List}
use mathlib.Core.Logic.{◌⊎◌, inl, inr}
use mathlib.Core.Option.{some}
use mathlib.Core.Bool.{Bool, true, false, not, ◌&&◌}
use Prim.Native.Nat.{ℕ, ◌<◌}
use native.Mathlib.Decide.{dec_lt}
use Rattle.locking.specs.Tree.{Run, TreeLocked}
use Rattle.locking.specs.Progress.{Moment, Sound}
use Rattle.locking.proofs.Progress.{progress}
use Rattle.model.specs.Workload.{Workload, WellFormed}
use Rattle.model.specs.Table.{Kind, Job, item_of, Wanted, Told, Steps, releases, works, locks, waits, goes}
use Rattle.model.specs.Table.{closes, finishes, Table, HoldsAt, step, Answer, Moves, step_no_place, step_no_job, steps}
use Rattle.model.specs.Journal.{Journal, TellsGoingOn, GoesOn, FreeToMove}
use Rattle.model.proofs.Tree.{depth, depth_up, local_item}
use Rattle.model.proofs.Job.{clash, test, asks, wanted_one, wanted_found, wanted_item}
use Rattle.model.proofs.History.{History, HoldsGood, some_same}

-- the locks so far
unfoldable pub run_of : (W : Workload) (F : WellFormed W) → History → Run
run_of W F h =
    record { up = W.up; depth = depth W F; root = h.root; has = λ j d. (h.jobs j).ever_locked d; at = h.at }

-- it has not worked in its state, and does not hold the state's item
abbrev asking : Workload → Job → Bool
asking W J = not J.has_worked && not (J.held (item_of W J))

asking_is : (a b : Bool) → (not a && not b) ≡ true → (a ≡ false) × (b ≡ false)
asking_is true b e = absurd (clash e refl)
asking_is false true e = absurd (clash e refl)
asking_is false false e = (refl, refl)

is_asking : (a b : Bool) → a ≡ false → b ≡ false → (not a && not b) ≡ true
is_asking true b e f = absurd (clash refl e)
is_asking false true e f = absurd (clash refl f)
is_asking false false e f = refl

not_true : (a : Bool) → not a ≡ true → a ≡ false
not_true true e = absurd (clash e refl)
not_true false e = refl

module _ {V : Type 0} (W : Workload) (F : WellFormed W) (K : Kind V) (first : List V) (b : Journal V) (m : Table V) (h : History)
    (H : HoldsGood W K first b m h) where
  pub tree_locked : TreeLocked b.count (run_of W F h)
  unfolding run_of
  tree_locked =
      record {
        apart = H.kept.apart;
        climbs = λ j d i e. elim ((H.good j i).climbs d e) [
          | inl q ↦ inl q
          | inr q ↦ inr (
            q.0,
            depth_up W F d (local_item W F (h.jobs j).type (H.good j i).type_ok ((H.good j i).inside d e)) q.1,
          )
        ];
        follows = H.kept.follows;
      }

  -- what a job that asks wants
  pick : (k : ℕ) → (w : ℕ) × (k < b.count → asking W (h.jobs k) ≡ true → Wanted W (h.jobs k) w)
  pick k = elim (dec_lt k b.count) [
    | no f ↦ (0, λ i e. absurd (f i))
    | yes i ↦ elim (test (asking W (h.jobs k))) [
      | inr f ↦ (0, λ y e. absurd (clash e f))
      | inl e ↦ (let a = asking_is (h.jobs k).has_worked ((h.jobs k).held (item_of W (h.jobs k))) e in
          let w = wanted_found W F (h.root k) (h.jobs k) (H.good k i) a.0 a.1 in
          (w.0, λ y z. w.1))
    ]
  ]

  moment : Moment
  moment =
      record {
        run = run_of W F h;
        now = h.now;
        holds = λ j d. (h.jobs j).held d;
        busy = λ j. not (h.jobs j).has_finished;
        waits = λ j. asking W (h.jobs j);
        wants = λ j. (pick j).0;
      }

  sound : Sound b.count moment
  unfolding moment run_of
  sound =
      record {
        locked = tree_locked;
        past = H.kept.past;
        held = λ j d i e. (H.good j i).held_locked d e;
        open_still = λ j d i e. elim (test (h.jobs j).has_finished) [
          | inl f ↦ absurd (clash e (((H.good j i).at_end f).1 d))
          | inr f ↦ ap not f
        ];
        latest = H.kept.latest;
        fresh = λ k i e. ((pick k).1 i e).never_locked;
        asked = λ k i e.
            let w = (pick k).1 i e in
            let a = asking_is (h.jobs k).has_worked ((h.jobs k).held (item_of W (h.jobs k))) e in
            elim (asks W F (h.root k) (h.jobs k) (H.good k i) (pick k).0 a.0 w) [
              | inl q ↦ inl q
              | inr q ↦ inr (
                q.0,
                depth_up W F (pick k).0 (wanted_item W F (h.root k) (h.jobs k) (H.good k i) (pick k).0 w) q.1,
              )
            ];
      }

  -- a job that does not wait, or of whose wanted item nobody is the holder
  Free : ℕ → Type 0
  Free k = (asking W (h.jobs k) ≡ false) ⊎ ((i : ℕ) → i < b.count → (h.jobs i).held (pick k).0 ≡ false)

  module _ (k : ℕ) (hk : k < b.count) (free : Free k) where
    no_wait
        : (d q : ℕ) → (h.jobs k).has_worked ≡ false → (h.jobs k).held (item_of W (h.jobs k)) ≡ false → Wanted W (h.jobs k) d
        → HoldsAt m q d → ⊥
    unfolding Free
    no_wait d q f e w s =
        let y = is_asking (h.jobs k).has_worked ((h.jobs k).held (item_of W (h.jobs k))) f e in
        elim free [
          | inl z ↦ clash y z
          | inr z ↦ (let o = H.seated q s.0 s.1 in
              let same = wanted_one W F (h.root k) (h.jobs k) (H.good k hk) d (pick k).0 w ((pick k).1 hk y) in
              clash (ap (λ (I : Job). I.held (pick k).0) o.2 ∙ subst (λ (x : ℕ). s.0.held x ≡ true) same s.2)
              (z o.0 (H.known q o.0 o.1)))
        ]

    going : (a : Told) (vs : List V) (J : Job) → Steps W K (HoldsAt m) m.values (h.jobs k) a vs J → TellsGoingOn a
    going _ _ _ (releases d u l w) = tt
    going _ _ _ (works new z c f i wk) = tt
    going _ _ _ (locks d u l c f i w n wu wl) = tt
    going _ _ _ (waits d q c f i w o) = no_wait d q f i w o
    going _ _ _ (goes s u c f t w) = tt
    going _ _ _ (closes d u c f t l w) = tt
    going _ _ _ (finishes c f t n) = tt

    goes_on_there
        : (p : ℕ) → m.places p ≡ some (h.jobs k) → (h.jobs k).has_finished ≡ false → (a : Answer) (n : Table V)
        → Moves W K m (step p) a n → GoesOn a
    goes_on_there p there u _ _ (step_no_place q i) = i (H.low p (h.jobs k) there)
    goes_on_there p there u _ _ (step_no_job q i j) = clash (j (h.jobs k) there) u
    goes_on_there p there u _ _ (steps q J J' a n i e f st P) =
        going a n.values J'
        (subst (λ (I : Job). Steps W K (HoldsAt m) m.values I a n.values J') (some_same (sym e ∙ there)) st)

  pub never_stuck : (j : ℕ) → j < b.count → (b.job j).has_finished ≡ false → FreeToMove W K b m
  unfolding moment Free
  never_stuck j i u =
      let r = progress b.count moment sound j i (ap not (sym (H.agrees j i).has_finished ∙ u)) in
      let k = r.0 in
      let g = r.1 in
      let v = not_true (h.jobs k).has_finished g.busy in
      let s = H.present k g.job v in
      record {
        place = s.0;
        job = k;
        is_there = s.1;
        known = g.job;
        unfinished = (H.agrees k g.job).has_finished ∙ v;
        moves = goes_on_there k g.job g.free s.0 s.2 v;
      }
