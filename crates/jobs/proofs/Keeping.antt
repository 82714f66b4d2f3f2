-- A change at one place keeps what holds of every record.
use Rattle.std.proofs.Common.{◌≡◌, ℕ, ◌<◌, Bool, true, false, cond, not, ◌&&◌, refl, List, length, get_or, set, ℤ, Some, None, Option, sym, ap, ◌∙◌, subst, inl, inr, arith, get_or-set_other, get_or-set_same}
use mathlib.Core.Logic.{∥∥₁_map}
use mathlib.Core.Option.{none, some}
use native.Mathlib.Decide.{ℕ_discrete}
use Rattle.std.proofs.lemmas.List.{get_or_past}
use Rattle.std.proofs.lemmas.Bool.{cases_lt}
use Rattle.std.proofs.lemmas.Option.{same_Some}
use Rattle.rules.specs.Sets.{Exactly}
use Rattle.jobs.proofs.Nexts.{next_kept, next_new}
use Rattle.model.specs.Workload.{Workload, WellFormed, LocalRoot}
use Rattle.model.specs.Table.{Kind, Job, new_job, not_awaited, seat, Steps, releases, works, locks, waits, goes, closes, finishes, Told}
use Rattle.model.specs.Sound.{Good}
use Rattle.model.proofs.Job.{good_new, good_not_awaited, good_ended, good_held, good_work, good_go, good_lock}
use Rattle.model.proofs.History.{none_some}
use Rattle.jobs.specs.View.{job_view, place_view, places_view, Sound, SoundRecord, PlaceSound, AllSound}
use Rattle.jobs.specs.declared.change.Change.{Change}
use Rattle.jobs.specs.declared.record.JobRecord.{JobRecord}
use Rattle.jobs.specs.Changes.{changed, changed_place}

pub place_set : (ps : List (Option JobRecord)) (i : ℕ) (x : Option JobRecord) → i < length ps → places_view (set ps i x) i ≡ place_view x
place_set ps i x l = ap place_view (get_or-set_same ps i x None l)

pub place_other : (ps : List (Option JobRecord)) (i q : ℕ) (x : Option JobRecord) → ¬ (q ≡ i) → places_view (set ps i x) q ≡ places_view ps q
place_other ps i q x n = ap place_view (get_or-set_other ps i q x None n)

pub sound_set : (W : Workload) (ps : List (Option JobRecord)) (i : ℕ) (x : Option JobRecord) → i < length ps → PlaceSound W x → AllSound W ps → AllSound W (set ps i x)
sound_set W ps i x l s a p R e = elim (ℕ_discrete p i) [
  | yes q ↦ s R (sym (get_or-set_same ps i x None l) ∙ subst (λ (z : ℕ). get_or (set ps i x) z None ≡ Some R) q e)
  | no n ↦ a p R (sym (get_or-set_other ps i p x None n) ∙ e)
]

pub sound_taken : (W : Workload) (R : JobRecord) → SoundRecord W R → PlaceSound W (Some R)
sound_taken W R s I e = subst (SoundRecord W) (same_Some R I e) s

module _ (W : Workload) (F : WellFormed W) where
  -- a new record, of a type with this root
  pub sound_new
      : (t root : ℕ) (a : ℤ) (R : JobRecord) → t < W.types → LocalRoot W t root → job_view R ≡ new_job t a → Exactly R.next (λ d. d ≡ root) → SoundRecord W R
  sound_new t root a R h r e n =
      record {
        job = subst (Sound W) (sym e) ∣ (root, good_new W F t a root h r) ∣₁;
        next = next_kept W (new_job t a) R R.next e refl (next_new W F t root a h r R.next n);
      }

  pub sound_left : (R R' : JobRecord) → SoundRecord W R → job_view R' ≡ not_awaited (job_view R) → R'.next ≡ R.next → SoundRecord W R'
  sound_left R R' s e n =
      record {
        job = subst (Sound W) (sym e) (∥∥₁_map s.job (λ g. (g.0, good_not_awaited W F g.0 (job_view R) g.1)));
        next = next_kept W (not_awaited (job_view R)) R' R.next e n s.next;
      }

  module _ (J : Job) (S : Sound W J) where
    good_step
        : {V : Type 0} (K : Kind V) (H : ℕ → ℕ → Type 0) (vs : List V) (a : Told) (new : List V) (J' : Job) (r : ℕ) → Good W r J → J.has_finished ≡ false
        → Steps W K H vs J a new J' → Good W r J'
    good_step K H vs _ _ _ r G u (releases d h l w) = good_held W F r J G d h u w (λ c. record { unneeded = l.0.unneeded; below = l.0.passed })
    good_step K H vs _ _ _ r G u (works new z c f i wk) = good_work W F r J G z u f
    good_step K H vs _ _ _ r G u (locks d h l c f i w free wh wl) = good_lock W F r J G d h l u f w wh wl
    good_step K H vs _ _ _ r G u (waits d q c f i w o) = G
    good_step K H vs _ _ _ r G u (goes s d c f t w) = good_go W F r J G s d u t w
    good_step K H vs _ _ _ r G u (closes d h c f t l w) = good_held W F r J G d h u w (λ k. absurd (k (f, t)))
    good_step K H vs _ _ _ r G u (finishes c f t n) = good_ended W F r J G (f, t) n

    -- a step keeps what holds of its job
    pub sound_step
        : {V : Type 0} (K : Kind V) (H : ℕ → ℕ → Type 0) (vs : List V) (a : Told) (new : List V) (J' : Job) → J.has_finished ≡ false
        → Steps W K H vs J a new J' → Sound W J'
    sound_step K H vs a new J' u st = ∥∥₁_map S (λ g. (g.0, good_step K H vs a new J' g.0 g.1 u st))

seat_view : (b : Bool) (r : JobRecord) → place_view (cond b None (Some r)) ≡ cond b none (some (job_view r))
seat_view true r = refl
seat_view false r = refl

seat_record : (b : Bool) (r R : JobRecord) → cond b None (Some r) ≡ Some R → r ≡ R
seat_record true r R e = cc
seat_record false r R e = same_Some r R e

-- what stands at the job's place after a change is sound, where the record is
pub sound_changed
    : (W : Workload) (x : Option JobRecord) (r : JobRecord) (c : Change) → x ≡ Some r → SoundRecord W (changed r c) → PlaceSound W (changed_place x c)
sound_changed W x r c e s R f =
    let r' = changed r c in
    subst (SoundRecord W) (seat_record (r'.finished && not r'.awaited) r' R (subst (λ (y : Option JobRecord). changed_place y c ≡ Some R) e f)) s

-- what stands at the job's place after a change
pub changed_view
    : (x : Option JobRecord) (r : JobRecord) (c : Change) → x ≡ Some r → place_view (changed_place x c) ≡ seat (job_view (changed r c))
changed_view x r c e =
    let r' = changed r c in
    ap (λ (y : Option JobRecord). place_view (changed_place y c)) e ∙ seat_view (r'.finished && not r'.awaited) r'

-- only one of the sixteen places is taken
pub taken_within : (ps : List (Option JobRecord)) (p : ℕ) (R : JobRecord) → length ps ≡ 16 → Some R ≡ get_or ps p None → p < 16
taken_within ps p R l e = elim (cases_lt p 16) [
  | inl i ↦ i
  | inr i ↦ absurd (none_some (ap place_view (sym (e ∙ get_or_past ps p None (omega arith)))))
]
