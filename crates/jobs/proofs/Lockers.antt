-- A change at one place keeps what the jobs hold apart: each item that is held was locked last from the place of its holder.
use Rattle.std.proofs.Common.{◌≡◌, ℕ, ◌<◌, Bool, true, false, cond, not, ◌&&◌, ◌⊎◌, List, length, set, ℤ, slice_index_or, get_or-set_other, get_or-set_same, replicate, Some, None, Option, sym, refl, ap, ◌∙◌, subst, inl, inr, zero, suc, arith}
use mathlib.Core.Logic.{∥∥₁_elim}
use mathlib.Core.Option.{none, some}
use native.Mathlib.Bridge.{le_prop}
use native.Mathlib.Decide.{ℕ_discrete, dec_lt}
use Rattle.std.proofs.lemmas.List.{get_or_past, length-set}
use Rattle.std.specs.Bool.{then_some}
use Rattle.std.specs.Option.{MatchOption}
use Rattle.itemset.specs.Members.{holds}
use Rattle.model.specs.Workload.{Workload, WellFormed}
use Rattle.model.specs.Table.{Kind, Job, Steps, Wanted, releases, works, locks, waits, goes, closes, finishes, Told, new_job, not_awaited}
use Rattle.model.specs.Table as model
use Rattle.model.proofs.Job.{clash, wanted_item, with_cases, without_less}
use Rattle.model.proofs.History.{some_same, none_some}
use Rattle.jobs.specs.declared.change.Change.{Change}
use Rattle.jobs.specs.declared.record.JobRecord.{JobRecord}
use Rattle.jobs.specs.declared.record.StepAnswer.{StepAnswer}
use Rattle.jobs.specs.declared.record.StepAnswer.TheVariants.{Released, Worked, Locked, Waiting, Gone, Finished}
use Rattle.jobs.specs.Changes.{changed, changed_place}
use Rattle.jobs.specs.View.{HeldFrom, Holding, LockedAt, Sound, job_view, lockers_after, place_holds, place_view, places_view, told_view}
use Rattle.jobs.proofs.Keeping.{place_set, place_other}

-- what the job of a place holds, by its record
pub held_of : (x : Option JobRecord) (J : Job) (d : ℕ) → place_view x ≡ some J → J.held d ≡ true → place_holds x d ≡ true
held_of None J d e h = absurd (none_some e)
held_of (Some r) J d e h = subst (λ (I : Job). I.held d ≡ true) (sym (some_same e)) h

pub job_there : (x : Option JobRecord) (d : ℕ) → place_holds x d ≡ true → (J : Job) × (place_view x ≡ some J) × (J.held d ≡ true)
job_there None d h = cc
job_there (Some r) d h = (job_view r, refl, h)

-- a change of one place
pub held_set
    : (lockers : List ℕ) (ps : List (Option JobRecord)) (p : ℕ) (x : Option JobRecord) → p < length ps → LockedAt lockers p x → HeldFrom lockers ps
    → HeldFrom lockers (set ps p x)
held_set lockers ps p x low l h q d g = elim (ℕ_discrete q p) [
  | yes e ↦ l d (held_of x g.0 d (sym (place_set ps p x low) ∙ subst (λ (z : ℕ). places_view (set ps p x) z ≡ some g.0) e g.1) g.2) ∙ sym e
  | no n ↦ h q d (g.0, sym (place_other ps p q x n) ∙ g.1, g.2)
]

-- an item that nobody holds is locked from any place
pub held_free
    : (lockers : List ℕ) (ps : List (Option JobRecord)) (p e : ℕ) → ((q : ℕ) → Holding ps q e → ⊥) → HeldFrom lockers ps → HeldFrom (set lockers e p) ps
held_free lockers ps p e f h q d g = elim (ℕ_discrete d e) [
  | yes k ↦ absurd (f q (subst (λ (z : ℕ). Holding ps q z) k g))
  | no n ↦ get_or-set_other lockers e d p 0 n ∙ h q d g
]

-- whether the job at the place from where the item was locked last holds it tells whether any job does
pub found_by
    : (ps : List (Option JobRecord)) (q d : ℕ) → ((o : ℕ) → Holding ps o d → q ≡ o) → (b : Bool) → b ≡ place_holds (slice_index_or ps q None) d
    → MatchOption (then_some b q) ((o : ℕ) → Holding ps o d → ⊥) (λ o. Holding ps o d)
found_by ps q d lock true e = job_there (slice_index_or ps q None) d (sym e)
found_by ps q d lock false e =
    λ o h. clash (subst (λ (z : ℕ). place_holds (slice_index_or ps z None) d ≡ true) (sym (lock o h)) (held_of (slice_index_or ps o None) h.0 d h.1 h.2)) (sym e)

-- what a step that locks tells of the item
pub locked_facts
    : {V : Type 0} (W : Workload) (K : Kind V) (H : ℕ → ℕ → Type 0) (vs : List V) (J : Job) (a : Told) (new : List V) (J' : Job)
    → Steps W K H vs J a new J' → (d : ℕ) → a ≡ model.locked d → Wanted W J d × ((q : ℕ) → ¬ H q d)
locked_facts W K H vs J _ _ _ (releases e h l w) d k = cc
locked_facts W K H vs J _ _ _ (works new z c f i wk) d k = cc
locked_facts W K H vs J _ _ _ (locks e h l c f i w free wh wl) d k =
    let q : e ≡ d = cc in
    subst (λ (z : ℕ). Wanted W J z × ((q : ℕ) → ¬ H q z)) q (w, free)
locked_facts W K H vs J _ _ _ (waits e q c f i w o) d k = cc
locked_facts W K H vs J _ _ _ (goes s u c f t w) d k = cc
locked_facts W K H vs J _ _ _ (closes e h c f t l w) d k = cc
locked_facts W K H vs J _ _ _ (finishes c f t n) d k = cc

pub wanted_low : (W : Workload) → WellFormed W → (J : Job) → Sound W J → (d : ℕ) → Wanted W J d → d < W.items
wanted_low W F J S d w = ∥∥₁_elim S le_prop (λ g. wanted_item W F g.0 J g.1 d w)

-- what a job holds after a step, it held before or has locked
step_holds
    : {V : Type 0} (W : Workload) (K : Kind V) (H : ℕ → ℕ → Type 0) (vs : List V) (J : Job) (a : Told) (new : List V) (J' : Job)
    → Steps W K H vs J a new J' → (d : ℕ) → J'.held d ≡ true → (J.held d ≡ true) ⊎ (a ≡ model.locked d)
step_holds W K H vs J _ _ _ (releases e h l w) d k = inl (without_less d w k)
step_holds W K H vs J _ _ _ (works new z c f i wk) d k = inl k
step_holds W K H vs J _ _ _ (locks e h l c f i w free wh wl) d k = elim (with_cases d wh k) [
  | inl q ↦ inr (ap model.locked (sym q))
  | inr o ↦ inl o
]
step_holds W K H vs J _ _ _ (waits e q c f i w o) d k = inl k
step_holds W K H vs J _ _ _ (goes s u c f t w) d k = inl k
step_holds W K H vs J _ _ _ (closes e h c f t l w) d k = inl (without_less d w k)
step_holds W K H vs J _ _ _ (finishes c f t n) d k = inl k

-- from where it was locked last
module _ (lockers : List ℕ) (p d : ℕ) where
  still_at : (x : StepAnswer) → slice_index_or lockers d 0 ≡ p → slice_index_or (lockers_after lockers p x) d 0 ≡ p
  still_at (Locked e) h = elim (ℕ_discrete d e) [
    | yes k ↦ elim (dec_lt d (length lockers)) [
      | yes l ↦ subst (λ (z : ℕ). slice_index_or (set lockers z p) d 0 ≡ p) k (get_or-set_same lockers d p 0 l)
      | no n ↦ subst (λ (z : ℕ). slice_index_or (set lockers z p) d 0 ≡ p) k (get_or_past (set lockers d p) d 0 (omega (arith, length-set lockers d p, n)) ∙ sym (get_or_past lockers d 0 (omega (arith, n))) ∙ h)
    ]
    | no n ↦ get_or-set_other lockers e d p 0 n ∙ h
  ]
  still_at (Released e) h = h
  still_at (Worked e) h = h
  still_at (Waiting e q) h = h
  still_at (Gone s) h = h
  still_at Finished h = h

  now_at : (x : StepAnswer) → d < length lockers → told_view x ≡ model.locked d → slice_index_or (lockers_after lockers p x) d 0 ≡ p
  now_at (Locked e) l h =
      let q : d ≡ e = cc in
      subst (λ (z : ℕ). slice_index_or (set lockers z p) d 0 ≡ p) q (get_or-set_same lockers d p 0 l)
  now_at (Released e) l h = cc
  now_at (Worked e) l h = cc
  now_at (Waiting e q) l h = cc
  now_at (Gone s) l h = cc
  now_at Finished l h = cc

seat_held : (b : Bool) (r : JobRecord) (d : ℕ) → place_holds (cond b None (Some r)) d ≡ true → holds r.held d ≡ true
seat_held true r d h = cc
seat_held false r d h = h

changed_held
    : (x : Option JobRecord) (r : JobRecord) (c : Change) (d : ℕ) → x ≡ Some r → place_holds (changed_place x c) d ≡ true → holds (changed r c).held d ≡ true
changed_held x r c d e h =
    let r' = changed r c in
    seat_held (r'.finished && not r'.awaited) r' d (subst (λ (y : Option JobRecord). place_holds (changed_place y c) d ≡ true) e h)

module _ (lockers : List ℕ) (ps : List (Option JobRecord)) (held : HeldFrom lockers ps) (p : ℕ) (R : JobRecord) (there : slice_index_or ps p None ≡ Some R) where
  own : (d : ℕ) → holds R.held d ≡ true → slice_index_or lockers d 0 ≡ p
  own d h = held p d (job_view R, ap place_view there, h)

  -- what the job holds after its step
  pub locked_step
      : {V : Type 0} (W : Workload) (K : Kind V) (vs : List V) (x : StepAnswer) (new : List V) (c : Change)
      → ((d : ℕ) → told_view x ≡ model.locked d → d < length lockers)
      → Steps W K (Holding ps) vs (job_view R) (told_view x) new (job_view (changed R c))
      → LockedAt (lockers_after lockers p x) p (changed_place (slice_index_or ps p None) c)
  locked_step W K vs x new c low s d h =
      elim (step_holds W K (Holding ps) vs (job_view R) (told_view x) new (job_view (changed R c)) s d (changed_held (slice_index_or ps p None) R c d there h)) [
        | inl k ↦ still_at lockers p d x (own d k)
        | inr f ↦ now_at lockers p d x (low d f) f
      ]

  pub locked_left : (R' : JobRecord) → job_view R' ≡ not_awaited (job_view R) → LockedAt lockers p (Some R')
  locked_left R' e d h = own d (subst (λ (J : Job). J.held d ≡ true) e h)

-- a new job holds nothing
pub locked_new : (lockers : List ℕ) (p t : ℕ) (a : ℤ) (R : JobRecord) → job_view R ≡ new_job t a → LockedAt lockers p (Some R)
locked_new lockers p t a R e d h = absurd (clash (subst (λ (J : Job). J.held d ≡ true) e h) refl)

-- where all places are empty there is no job, and nothing is held
all_empty : (n q : ℕ) → places_view (replicate n None) q ≡ none
all_empty zero q = refl
all_empty (suc n) zero = refl
all_empty (suc n) (suc q) = all_empty n q

pub no_job : (n q : ℕ) (J : Job) → places_view (replicate n None) q ≡ some J → ⊥
no_job n q J h = none_some (sym (all_empty n q) ∙ h)

pub none_held : (n q d : ℕ) → Holding (replicate n None) q d → ⊥
none_held n q d h = no_job n q h.0 h.1
