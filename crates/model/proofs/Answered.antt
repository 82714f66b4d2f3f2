-- Every call has an answer.
use mathlib.Core.Path.{◌≡◌, refl, sym, ◌∙◌, subst, ap}
use mathlib.Core.List.{List, [], ◌∷◌}
use mathlib.Core.Logic.{◌⊎◌, inl, inr, ◌↔◌}
use mathlib.Core.Option.{Option, none, some}
use mathlib.Core.Bool.{Bool, true, false}
use Prim.Native.Nat.{ℕ, zero, suc, ◌≤◌, ◌<◌}
use native.Mathlib.Omega.{arith}
use native.Mathlib.Decide.{dec_lt, dec_le}
use lib.IntN.{ℤ, pos, negsuc}
use lib.ListN.{length, get_elem?, set, length-set}
use Rattle.model.specs.Workload.{Workload, WellFormed, Terminal, Unlockable, choice, Takes}
use Rattle.model.specs.Table.{Kind, Job, item_of, Without, With, Lowest, MayGo, Wanted, new_job, holding, locking}
use Rattle.model.specs.Table.{with_register, in_state, ended, not_awaited, Told, released, worked, locked, waiting, gone}
use Rattle.model.specs.Table.{finished, Steps, releases, works, locks, waits, goes, closes, finishes, Table, HoldsAt, Fits}
use Rattle.model.specs.Table.{Placed, seat, Call, begin, step, collect, leave, Answer, refused, began, told, collected, left}
use Rattle.model.specs.Table.{Moves, begin_unfit, begin_no_place, begin_no_type, begin_taken, begins, step_no_place}
use Rattle.model.specs.Table.{step_no_job, steps, collect_none, collect_early, collects, leave_none, leaves_finished}
use Rattle.model.specs.Table.{leaves_unfinished}
use Rattle.model.specs.Journal.{Journal, change, Event, Reached, new as starts, next}
use Rattle.model.specs.Sound.{Good}
use Rattle.model.proofs.Job.{clash, test, wanted_found}
use Rattle.model.proofs.History.{History, HoldsGood, some_same, none_some, change_same, change_other}
use Rattle.model.proofs.Ways.{dec_and, dec_or, dec_iff, dec_true, dec_some, lowest}
use Rattle.model.proofs.Decide.{dec_unlockable, dec_may_go, held_item}

-- a store over which there is a job has an item for each of the workload's
abbrev pub Room : {V : Type 0} → Workload → Table V → Type 0
Room W m = (p : ℕ) (J : Job) → m.places p ≡ some J → W.items ≤ length m.values

module _ {V : Type 0} (W : Workload) (K : Kind V) where
  steps_length
      : {Holds : ℕ → ℕ → Type 0} {vs : List V} {J : Job} (a : Told) (new : List V) (J' : Job) → Steps W K Holds vs J a new J'
      → length new ≡ length vs
  steps_length _ _ _ (releases d u l w) = refl
  steps_length {vs = vs} _ _ _ (works new z c f i (inl wk)) = ap length wk.value ∙ length-set vs _ _
  steps_length {vs = vs} _ _ _ (works new z c f i (inr wk)) = ap length wk.1
  steps_length _ _ _ (locks d u l c f i w n wu wl) = refl
  steps_length _ _ _ (waits d q c f i w o) = refl
  steps_length _ _ _ (goes s u c f t w) = refl
  steps_length _ _ _ (closes d u c f t l w) = refl
  steps_length _ _ _ (finishes c f t n) = refl

  -- no call changes how many values there are
  call_length : (m : Table V) (c : Call) (a : Answer) (n : Table V) → Moves W K m c a n → length n.values ≡ length m.values
  call_length m _ _ _ (begin_unfit p t a i) = refl
  call_length m _ _ _ (begin_no_place p t a i j) = refl
  call_length m _ _ _ (begin_no_type p t a i j k) = refl
  call_length m _ _ _ (begin_taken p t a J i j k l) = refl
  call_length m _ _ _ (begins p t a n i j k l e P) = ap length e
  call_length m _ _ _ (step_no_place p i) = refl
  call_length m _ _ _ (step_no_job p i j) = refl
  call_length m _ _ _ (steps p J J' a n i there f st P) = steps_length a n.values J' st
  call_length m _ _ _ (collect_none p i) = refl
  call_length m _ _ _ (collect_early p J i j k) = refl
  call_length m _ _ _ (collects p J n there i f e P) = ap length e
  call_length m _ _ _ (leave_none p i) = refl
  call_length m _ _ _ (leaves_finished p J n there i f e P) = ap length e
  call_length m _ _ _ (leaves_unfinished p J n there i f e P) = ap length e

  pub reached_length : {first : List V} (es : List Event) (m : Table V) → Reached W K first es m → length m.values ≡ length first
  reached_length _ _ (starts m n) = ap length n.values
  reached_length _ _ (next es m n c a r mv) = call_length m c a n mv ∙ reached_length es m r

  room_same
      : (m n : Table V) (p : ℕ) (J : Job) → Room W m → m.places p ≡ some J → length n.values ≡ length m.values → Room W n
  room_same m n p J R there e q I f = let r = R p J there in omega arith

  pub room_call : (m : Table V) (c : Call) (a : Answer) (n : Table V) → Moves W K m c a n → Room W m → Room W n
  room_call m _ _ _ (begin_unfit p t a i) R = R
  room_call m _ _ _ (begin_no_place p t a i j) R = R
  room_call m _ _ _ (begin_no_type p t a i j k) R = R
  room_call m _ _ _ (begin_taken p t a J i j k l) R = R
  room_call m _ _ _ (begins p t a n i j k l e P) R = λ q J f. let x = i.0 in let y = ap length e in omega arith
  room_call m _ _ _ (step_no_place p i) R = R
  room_call m _ _ _ (step_no_job p i j) R = R
  room_call m _ _ _ (steps p J J' a n i there f st P) R = room_same m n p J R there (steps_length a n.values J' st)
  room_call m _ _ _ (collect_none p i) R = R
  room_call m _ _ _ (collect_early p J i j k) R = R
  room_call m _ _ _ (collects p J n there i f e P) R = room_same m n p J R there (ap length e)
  room_call m _ _ _ (leave_none p i) R = R
  room_call m _ _ _ (leaves_finished p J n there i f e P) R = room_same m n p J R there (ap length e)
  room_call m _ _ _ (leaves_unfinished p J n there i f e P) R = room_same m n p J R there (ap length e)

element : {A : Type 0} (l : List A) (i : ℕ) → i < length l → (x : A) × (get_elem? l i ≡ some x)
element [] i h = absurd (omega arith)
element (x ∷ xs) zero h = (x, refl)
element (x ∷ xs) (suc i) h = element xs i (omega arith)

choice_low : (p : ℤ) (k : ℕ) → choice p (suc k) < suc k
choice_low (pos n) k = omega arith
choice_low (negsuc n) k = omega arith

bool_of : {A : Type 0} → Dec A → Bool
bool_of (yes a) = true
bool_of (no n) = false

bool_of_is : {A : Type 0} (d : Dec A) → (bool_of d ≡ true) ↔ A
unfolding bool_of
bool_of_is (yes a) = (λ e. a, λ x. refl)
bool_of_is (no n) = (λ e. absurd (clash e refl), λ x. absurd (n x))

module _ {V : Type 0} (m : Table V) (p : ℕ) where
  -- the table with x at the place p, over the values vs
  put_at : Option Job → List V → Table V
  put_at x vs = record { values = vs; places = change m.places p x }

  put_placed : (x : Option Job) (vs : List V) → Placed m p x (put_at x vs)
  unfolding put_at
  put_placed x vs = record { there = change_same m.places p x; elsewhere = λ q n. change_other m.places p x q n }

  dec_holds : (d : ℕ) → Dec (HoldsAt m p d)
  dec_holds d = go (m.places p) refl
    where
      go : (x : Option Job) → m.places p ≡ x → Dec (HoldsAt m p d)
      go none e = no (λ h. none_some (sym e ∙ h.1))
      go (some J) e =
          dec_iff (λ h. (J, e, h)) (λ h. subst (λ (I : Job). I.held d ≡ true) (some_same (sym h.1 ∙ e)) h.2)
          (dec_true (J.held d))

module _ {V : Type 0} (W : Workload) (F : WellFormed W) (K : Kind V) (first : List V) (b : Journal V) (m : Table V) (h : History)
    (H : HoldsGood W K first b m h) (R : Room W m) where
  module _ (p j : ℕ) (there : m.places p ≡ some (h.jobs j)) (hj : j < b.count) where
    StepThere : Type 0
    StepThere = (a : Told) × (vs : List V) × (J : Job) × Steps W K (HoldsAt m) m.values (h.jobs j) a vs J

    I : Job
    I = h.jobs j

    good_j : Good W (h.root j) (h.jobs j)
    good_j = H.good j hj

    without : (d : ℕ) → Without (h.jobs j).held d (change (h.jobs j).held d false)
    without d = (change_same (h.jobs j).held d false, λ x n. change_other (h.jobs j).held d false x n)

    with_it : (a : ℕ → Bool) (d : ℕ) → With a d (change a d true)
    with_it a d = (change_same a d true, λ x n. change_other a d true x n)

    module _ (stays : (x : ℕ) → ¬ MayGo W (h.jobs j) x) where
      -- not yet worked, and the item held
      does_work : (h.jobs j).has_worked ≡ false → (h.jobs j).held (item_of W (h.jobs j)) ≡ true → StepThere
      unfolding StepThere
      does_work f e =
          let t = (h.jobs j).type in
          let s = (h.jobs j).state in
          let i = F.names_item t s good_j.type_ok good_j.state_ok in
          let r = R p (h.jobs j) there in
          let v = element m.values (W.item t s) (omega arith) in
          let a = K.act v.0 (W.code t s) (W.operand t s) (h.jobs j).register in (
            worked (item_of W (h.jobs j)),
            set m.values (W.item t s) a.0,
            with_register (h.jobs j) a.1,
            works (set m.values (W.item t s) a.0) a.1 stays f e
                (inl (record { found = v.0; there = v.1; value = refl; register = refl })),
          )

      -- not yet worked, and the item not held
      goes_for_lock : (h.jobs j).has_worked ≡ false → (h.jobs j).held (item_of W (h.jobs j)) ≡ false → StepThere
      unfolding StepThere
      goes_for_lock f e = go (dec_some (λ q. HoldsAt m q w.0) 16 (λ q i. dec_holds m q w.0))
        where
          w : (d : ℕ) × Wanted W (h.jobs j) d
          w = wanted_found W F (h.root j) (h.jobs j) good_j f e

          go : Dec ((q : ℕ) × (q < 16) × HoldsAt m q w.0) → StepThere
          go (yes s) = (waiting w.0 s.0, m.values, h.jobs j, waits w.0 s.0 stays f e w.1 s.2)
          go (no n) =
              let u = change (h.jobs j).held w.0 true in
              let l = change (h.jobs j).ever_locked w.0 true in (
                locked w.0,
                m.values,
                locking (h.jobs j) u l,
                locks w.0 u l stays f e w.1 (λ q s. n (q, H.low q s.0 s.1, s)) (with_it (h.jobs j).held w.0)
                    (with_it (h.jobs j).ever_locked w.0),
              )

      -- worked
      leaves_state : (h.jobs j).has_worked ≡ true → StepThere
      unfolding StepThere
      leaves_state f = go (W.arcs (h.jobs j).type (h.jobs j).state) refl
        where
          t : ℕ
          t = (h.jobs j).type

          s : ℕ
          s = (h.jobs j).state

          end
              : Terminal W t s → ((d : ℕ) × Lowest (λ x. (h.jobs j).held x ≡ true) d) ⊎ ((x : ℕ) → ¬ ((h.jobs j).held x ≡ true))
              → StepThere
          end c (inl d) =
              let u = change (h.jobs j).held d.0 false in
              (released d.0, m.values, holding (h.jobs j) u, closes d.0 u stays f c d.1 (without d.0))
          end c (inr n) = (
            finished,
            m.values,
            ended (h.jobs j),
            finishes stays f c (λ x. elim (test ((h.jobs j).held x)) [ inl y ↦ absurd (n x y) | inr y ↦ y ]),
          )

          go : (l : List ℕ) → W.arcs t s ≡ l → StepThere
          go [] c =
              end c (lowest (λ x. (h.jobs j).held x ≡ true) W.items (λ x. dec_true ((h.jobs j).held x))
              (held_item W F (h.root j) (h.jobs j) good_j))
          go (x ∷ xs) c = arc (element (W.arcs t s) (choice (h.jobs j).register (length (W.arcs t s))) low)
            where
              low : choice (h.jobs j).register (length (W.arcs t s)) < length (W.arcs t s)
              low =
                  subst (λ (l : List ℕ). choice (h.jobs j).register (length l) < length l) (sym c)
                  (choice_low (h.jobs j).register (length xs))

              arc : (r : ℕ) × Takes W t s (h.jobs j).register r → StepThere
              arc r =
                  (gone r.0, m.values, in_state (h.jobs j) r.0 u, goes r.0 u stays f r.1 (λ y. bool_of_is (may y)))
                where
                  may : (y : ℕ) → Dec (((h.jobs j).done y ≡ true) ⊎ Unlockable W t r.0 y)
                  may y =
                      dec_or (dec_true ((h.jobs j).done y))
                      (dec_unlockable W F t good_j.type_ok r.0 y
                      (F.leads t s r.0 good_j.type_ok
                      (good_j.state_ok, Rattle.model.proofs.Job.element_mem (W.arcs t s) _ r.0 r.1)))

                  u : ℕ → Bool
                  u y = bool_of (may y)

    step_there : StepThere
    unfolding StepThere
    step_there = elim (lowest (MayGo W (h.jobs j)) W.items (dec_may_go W F (h.root j) (h.jobs j) good_j)
        (λ x g. held_item W F (h.root j) (h.jobs j) good_j x g.is_held)) [
          | inl d ↦ (
            released d.0,
            m.values,
            holding (h.jobs j) (change (h.jobs j).held d.0 false),
            releases d.0 (change (h.jobs j).held d.0 false) d.1 (without d.0),
          )
          | inr n ↦ elim (test (h.jobs j).has_worked) [
            | inl f ↦ leaves_state n f
            | inr f ↦ elim (test
                ((h.jobs j).held (item_of W (h.jobs j)))) [ inl e ↦ does_work n f e | inr e ↦ goes_for_lock n f e ]
          ]
        ]

  Answered : Call → Type 0
  Answered c = (a : Answer) × (n : Table V) × Moves W K m c a n

  answer_begin : (p t : ℕ) (a : ℤ) → Answered (begin p t a)
  unfolding Answered put_at
  answer_begin p t a = elim (dec_and (dec_le W.items (length m.values)) (dec_le W.codes K.codes)) [
    | no f ↦ (refused 8, m, begin_unfit p t a f)
    | yes f ↦ elim (dec_lt p 16) [
      | no i ↦ (refused 10, m, begin_no_place p t a f i)
      | yes i ↦ elim (dec_lt t W.types) [
        | no k ↦ (refused 11, m, begin_no_type p t a f i k)
        | yes k ↦ go f i k (m.places p) refl
      ]
    ]
  ]
    where
      go : Fits W K m → p < 16 → t < W.types → (x : Option Job) → m.places p ≡ x → Answered (begin p t a)
      go f i k none e = (
        began,
        put_at m p (some (new_job t a)) m.values,
        begins p t a (put_at m p (some (new_job t a)) m.values) f i k e refl (put_placed m p (some (new_job t a)) m.values),
      )
      go f i k (some J) e = (refused 12, m, begin_taken p t a J f i k e)

  answer_step : (p : ℕ) → Answered (step p)
  unfolding Answered put_at StepThere
  answer_step p = elim (dec_lt p 16) [
    | no i ↦ (refused 10, m, step_no_place p i)
    | yes i ↦ go i (m.places p) refl
  ]
    where
      go : p < 16 → (x : Option Job) → m.places p ≡ x → Answered (step p)
      go i none e = (refused 13, m, step_no_job p i (λ J f. absurd (none_some (sym e ∙ f))))
      go i (some J) e = elim (test J.has_finished) [
        | inl f ↦ (refused 13, m, step_no_job p i (λ I g. subst (λ (I : Job). I.has_finished ≡ true) (some_same (sym e ∙ g)) f))
        | inr f ↦ (let s = H.seated p J e in
            let r = step_there p s.0 (e ∙ ap some (sym s.2)) (H.known p s.0 s.1) in (
              told r.0,
              put_at m p (seat r.2) r.1,
              steps p (h.jobs s.0) r.2 r.0 (put_at m p (seat r.2) r.1) i (e ∙ ap some (sym s.2))
                  (ap (λ (I : Job). I.has_finished) s.2 ∙ f) r.3 (put_placed m p (seat r.2) r.1),
            ))
      ]

  answer_collect : (p : ℕ) → Answered (collect p)
  unfolding Answered put_at
  answer_collect p = go (m.places p) refl
    where
      go : (x : Option Job) → m.places p ≡ x → Answered (collect p)
      go none e = (refused 14, m, collect_none p (λ J f. absurd (none_some (sym e ∙ f))))
      go (some J) e = elim (test J.awaited) [
        | inr f ↦ (refused 14, m, collect_none p (λ I g. subst (λ (I : Job). I.awaited ≡ false) (some_same (sym e ∙ g)) f))
        | inl f ↦ elim (test J.has_finished) [
          | inr g ↦ (refused 15, m, collect_early p J e f g)
          | inl g ↦ (
            collected J.register,
            put_at m p none m.values,
            collects p J (put_at m p none m.values) e f g refl (put_placed m p none m.values),
          )
        ]
      ]

  answer_leave : (p : ℕ) → Answered (leave p)
  unfolding Answered put_at
  answer_leave p = go (m.places p) refl
    where
      go : (x : Option Job) → m.places p ≡ x → Answered (leave p)
      go none e = (refused 14, m, leave_none p (λ J f. absurd (none_some (sym e ∙ f))))
      go (some J) e = elim (test J.awaited) [
        | inr f ↦ (refused 14, m, leave_none p (λ I g. subst (λ (I : Job). I.awaited ≡ false) (some_same (sym e ∙ g)) f))
        | inl f ↦ elim (test J.has_finished) [
          | inl g ↦ (
            left,
            put_at m p none m.values,
            leaves_finished p J (put_at m p none m.values) e f g refl (put_placed m p none m.values),
          )
          | inr g ↦ (
            left,
            put_at m p (some (not_awaited J)) m.values,
            leaves_unfinished p J (put_at m p (some (not_awaited J)) m.values) e f g refl
                (put_placed m p (some (not_awaited J)) m.values),
          )
        ]
      ]

  pub always_answers : (c : Call) → (a : Answer) × (n : Table V) × Moves W K m c a n
  unfolding Answered
  always_answers (begin p t a) = answer_begin p t a
  always_answers (step p) = answer_step p
  always_answers (collect p) = answer_collect p
  always_answers (leave p) = answer_leave p
