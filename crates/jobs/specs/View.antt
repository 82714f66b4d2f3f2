-- Records and places, as the definitions of the table have them.
use Rattle.std.specs.Prelude.{◌≡◌, ℕ, ◌⊎◌, Bool, true, false, List, Some, None, Option, slice_index_or, slice_set}
use Rattle.std.proofs.Math.Option.{none, some}
use Rattle.std.proofs.Math.Option as math
use Rattle.itemset.specs.Members.{holds}
use Rattle.itemset.specs.declared.ItemSet.{ItemSet}
use Rattle.model.specs.Workload.{Workload, LocalChild, LocalRoot}
use Rattle.model.specs.Table.{Job}
use Rattle.model.specs.Table as model
use Rattle.model.specs.Sound.{Good}
use Rattle.rules.specs.Sets.{Exactly}
use Rattle.jobs.specs.declared.record.JobRecord.{JobRecord}
use Rattle.jobs.specs.declared.record.StepAnswer.{StepAnswer}
use Rattle.jobs.specs.declared.record.StepAnswer.TheVariants.{Released, Worked, Locked, Waiting, Gone, Finished}

abbrev pub job_view : JobRecord → Job
job_view r =
    record {
      type = r.job_type;
      state = r.state;
      has_worked = r.worked;
      register = r.register;
      held = holds r.held;
      ever_locked = holds r.locked;
      done = holds r.done;
      has_finished = r.finished;
      awaited = r.awaited;
    }

abbrev pub place_view : Option JobRecord → math.Option Job
place_view None = none
place_view (Some r) = some (job_view r)

-- a place past the end is empty
abbrev pub places_view : List (Option JobRecord) → ℕ → math.Option Job
places_view ps p = place_view (slice_index_or ps p None)

-- what holds of a job after every list of calls
abbrev pub Sound : Workload → Job → Type 0
Sound W J = ∥ ((r : ℕ) × Good W r J) ∥₁

-- a job of the type t that locked these items may lock d next: it never locked d, which is the local root or right below a locked item
pub record MayLock (W : Workload) (t : ℕ) (locked : ℕ → Bool) (d : ℕ) : Type 0 where
  pub never_locked : locked d ≡ false
  pub reached : ∥ LocalRoot W t d ⊎ ((a : ℕ) × LocalChild W t a d × (locked a ≡ true)) ∥₁

-- the set holds what the job J may lock next, and no other item
abbrev pub NextOf : Workload → Job → ItemSet → Type 0
NextOf W J next = Exactly next (MayLock W J.type J.ever_locked)

-- what holds of a record: of its job, and of the items that it keeps to be locked next
pub record SoundRecord (W : Workload) (R : JobRecord) : Type 0 where
  pub job : Sound W (job_view R)
  pub next : NextOf W (job_view R) R.next

-- of the record, if any, of a place
abbrev pub PlaceSound : Workload → Option JobRecord → Type 0
PlaceSound W x = (R : JobRecord) → x ≡ Some R → SoundRecord W R

-- and of every record at a place
abbrev pub AllSound : Workload → List (Option JobRecord) → Type 0
AllSound W ps = (p : ℕ) → PlaceSound W (slice_index_or ps p None)

-- the job at the place q holds the item d
abbrev pub Holding : List (Option JobRecord) → ℕ → ℕ → Type 0
Holding ps q d = (J : Job) × (places_view ps q ≡ some J) × (J.held d ≡ true)

abbrev pub place_holds : Option JobRecord → ℕ → Bool
place_holds None d = false
place_holds (Some r) d = holds r.held d

-- an item that a job holds was locked last from the place of that job: so no two jobs hold it
abbrev pub HeldFrom : List ℕ → List (Option JobRecord) → Type 0
HeldFrom lockers ps = (q d : ℕ) → Holding ps q d → slice_index_or lockers d 0 ≡ q

-- what x holds was locked last from the place p
abbrev pub LockedAt : List ℕ → ℕ → Option JobRecord → Type 0
LockedAt lockers p x = (d : ℕ) → place_holds x d ≡ true → slice_index_or lockers d 0 ≡ p

abbrev pub told_view : StepAnswer → model.Told
told_view (Released d) = model.released d
told_view (Worked d) = model.worked d
told_view (Locked d) = model.locked d
told_view (Waiting d q) = model.waiting d q
told_view (Gone s) = model.gone s
told_view Finished = model.finished

-- from which place each item was locked last, after a step at the place p
abbrev pub lockers_after : List ℕ → ℕ → StepAnswer → List ℕ
lockers_after lockers p (Locked d) = slice_set lockers d p
lockers_after lockers p _ = lockers
