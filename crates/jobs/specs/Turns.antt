-- What the operations on the sixteen places do.
use Rattle.std.specs.Prelude.{◌≡◌, ℕ, ◌<◌, ◌≤◌, true, false, List, ℤ, Some, None, Option, Ok, Err, Result, slice_index_or, slice_set}
use Rattle.model.specs.Workload.{Workload}
use Rattle.model.specs.Table.{Kind, Steps, new_job, not_awaited, seat}
use Rattle.jobs.specs.declared.record.JobRecord.{JobRecord}
use Rattle.jobs.specs.declared.record.EnterError.{EnterError}
use Rattle.jobs.specs.declared.record.EnterError.TheVariants.{NoSuchPlace, NoSuchType, PlaceTaken}
use Rattle.jobs.specs.declared.record.StepAnswer.{StepAnswer}
use Rattle.jobs.specs.View.{Holding, job_view, place_view, told_view}

-- the places before, the place asked for, and the places after
module _ (before : List (Option JobRecord)) (p : ℕ) (after : List (Option JobRecord)) where
  -- a new job is entered at an empty place, or there is no such place or type, or the place is taken, and nothing changes
  pub data Entered (W : Workload) (t : ℕ) (a : ℤ) (r : Result (Unit {0}) EnterError) : Type 0 where
    enters
        : (R : JobRecord) → p < 16 → t < W.types → slice_index_or before p None ≡ None → job_view R ≡ new_job t a
        → after ≡ slice_set before p (Some R) → r ≡ Ok tt → Entered W t a r
    no_such_place : 16 ≤ p → after ≡ before → r ≡ Err NoSuchPlace → Entered W t a r
    no_such_type : p < 16 → W.types ≤ t → after ≡ before → r ≡ Err NoSuchType → Entered W t a r
    place_taken
        : (R : JobRecord) → p < 16 → t < W.types → slice_index_or before p None ≡ Some R → after ≡ before → r ≡ Err PlaceTaken
        → Entered W t a r

  -- the unfinished job at the place makes one step over the values old, and all other records stay; or there is none
  pub data Stepped {V : Type 0} (W : Workload) (K : Kind V) (old new : List V) (r : Option StepAnswer) : Type 0 where
    steps
        : (R R' : JobRecord) (x : StepAnswer) (there : Option JobRecord) → slice_index_or before p None ≡ Some R → R.finished ≡ false
        → Steps W K (Holding before) old (job_view R) (told_view x) new (job_view R') → place_view there ≡ seat (job_view R')
        → after ≡ slice_set before p there → r ≡ Some x → Stepped W K old new r
    no_job
        : ((R : JobRecord) → slice_index_or before p None ≡ Some R → R.finished ≡ true) → after ≡ before → new ≡ old → r ≡ None
        → Stepped W K old new r

  -- nobody awaits the job at the place any more, if there is one
  pub data Unawaited : Type 0 where
    lets_go
        : (R R' : JobRecord) → slice_index_or before p None ≡ Some R → job_view R' ≡ not_awaited (job_view R) → after ≡ slice_set before p (Some R')
        → Unawaited
    nobody : slice_index_or before p None ≡ None → after ≡ before → Unawaited
