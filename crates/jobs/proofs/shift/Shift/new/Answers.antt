use Rattle.std.proofs.Common.{refl, ap}
use Rattle.jobs.specs.View.{job_view, place_view}
use Rattle.jobs.proofs.Lockers.{no_job, none_held}
use Rattle.jobs.proofs.shift.Shift.new.Goals as goal

pub invariant_of-result : goal.invariant_of-result
invariant_of-result c =
    record {
      sixteen = refl;
      sound = λ p R e. absurd (no_job 16 p (job_view R) (ap place_view e));
      every_item = refl;
      held = λ q d g. absurd (none_held 16 q d g);
    }
