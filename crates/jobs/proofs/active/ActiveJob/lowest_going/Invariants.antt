use Rattle.std.proofs.Common.{ℕ, ◌≡◌, ◌↔◌, true}
use Rattle.model.specs.Table.{MayGo}
use Rattle.workload.specs.View.{view}
use Rattle.itemset.specs.Members.{holds}
use Rattle.jobs.specs.View.{job_view}
use Rattle.itemset.proofs.Counting.{count}
use Rattle.jobs.proofs.Deciding.{IdleAndPassed}
use Rattle.jobs.proofs.active.ActiveJob.lowest_going.Given as goal

-- Idle items whose children have all passed are those that may go. What is left is idle, and no item that may go was taken out.
abbrev pub invariant-loop-d : goal.invariant-loop-d
invariant-loop-d l =
    ((x : ℕ) → IdleAndPassed l.plan l.initial.idle l.passed x ↔ MayGo (view l.self.workload.now) (job_view l.self.job.now) x)
    × ((x : ℕ) → holds l.idle x ≡ true → holds l.initial.idle x ≡ true)
    × ((x : ℕ) → IdleAndPassed l.plan l.initial.idle l.passed x → holds l.idle x ≡ true)

abbrev pub decreases-loop-d : goal.decreases-loop-d
decreases-loop-d l = count l.idle 64
