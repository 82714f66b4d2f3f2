-- What an active job's record and plan say outright.
use Rattle.std.proofs.Common.{◌≡◌, ℕ, ◌<◌, true}
use mathlib.Core.Logic.{∥∥₁_elim}
use native.Mathlib.Bridge.{le_prop}
use Rattle.itemset.specs.Members.{holds}
use Rattle.model.specs.Workload.{Takes}
use Rattle.model.proofs.Decide.{held_item}
use Rattle.model.proofs.Job.{element_mem}
use Rattle.workload.specs.View.{view}
use Rattle.workload.proofs.Uses.{well_formed}
use Rattle.jobs.specs.declared.active.ActiveJob.{ActiveJob}
use Rattle.jobs.specs.View.{job_view}

module _ (a : ActiveJob) where
  pub type_ok : a.job.now.job_type < (view a.workload.now).types
  type_ok = ∥∥₁_elim a.sound.job le_prop (λ g. g.1.type_ok)

  pub state_ok : a.job.now.state < (view a.workload.now).states a.job.now.job_type
  state_ok = ∥∥₁_elim a.sound.job le_prop (λ g. g.1.state_ok)

  pub held_low : (d : ℕ) → holds a.job.now.held d ≡ true → d < (view a.workload.now).items
  held_low d h = ∥∥₁_elim a.sound.job le_prop (λ g. held_item (view a.workload.now) (well_formed a.workload.now) g.0 (job_view a.job.now) g.1 d h)

  pub next_low : (s : ℕ) → Takes (view a.workload.now) a.job.now.job_type a.job.now.state a.job.now.register s → s < (view a.workload.now).states a.job.now.job_type
  next_low s t = (well_formed a.workload.now).leads a.job.now.job_type a.job.now.state s type_ok (state_ok, element_mem ((view a.workload.now).arcs a.job.now.job_type a.job.now.state) _ s t)
