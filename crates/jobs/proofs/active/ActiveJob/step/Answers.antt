use Rattle.std.proofs.Common.{◌≡◌, ℕ, true, false, ℤ, sym, refl, ◌∙◌, subst, w32, SFits, rules}
use Rattle.std.proofs.lemmas.Int.{to_z-of_z}
use Rattle.itemset.specs.Members.{holds}
use Rattle.kinds.specs.View.{view as kind_view}
use Rattle.model.specs.Workload.{Unlockable}
use Rattle.model.specs.Table.{Steps, WorksIfThere, closes, finishes, goes, holding, in_state, locking, locks, releases, waits, worked, works}
use Rattle.workload.specs.View.{view}
use Rattle.jobs.specs.declared.change.Change.TheVariants.{Worked}
use Rattle.jobs.specs.Changes.{changed}
use Rattle.jobs.specs.View.{Holding, job_view}
use Rattle.jobs.proofs.Actives.{next_low}
use Rattle.jobs.proofs.Nexts.{next_kept, next_locked}
use Rattle.workload.proofs.Uses.{well_formed}
use Rattle.jobs.proofs.Stepped.{lowest_of, with_all_of}
use Rattle.jobs.proofs.active.ActiveJob.step.Goals as goal

pub returns-in-Some-clause-steps : goal.returns-in-Some-clause-steps
returns-in-Some-clause-steps g c =
    let after = changed c.args.self.now.job.now c.release.result in
    rw c.release.ensures.job (releases c.in-Some.d (holds after.held) c.in-Some.ensures c.release.ensures.held)

pub returns-in-Some-clause-next : goal.returns-in-Some-clause-next
returns-in-Some-clause-next g c =
    let a = c.args.self.now in
    let r = c.release in
    let after = changed a.job.now r.result in
    next_kept (view a.workload.now) (holding (job_view a.job.now) (holds after.held)) after a.job.now.next r.ensures.job r.ensures.next a.sound.next

pub unlockable-requires : goal.unlockable-requires
unlockable-requires g c = next_low c.args.self.now c.in-Some-next_state.s c.in-Some-next_state.ensures

pub returns-in-Some-next_state-clause-steps : goal.returns-in-Some-next_state-clause-steps
returns-in-Some-next_state-clause-steps g c =
    let a = c.args.self.now in
    let s = c.in-Some-next_state.s in
    let after = changed a.job.now c.arrive.result in
    rw c.arrive.ensures.job (goes s (holds after.done) c.in_default.ensures c.if-job.true c.in-Some-next_state.ensures
    (with_all_of (holds a.job.now.done) (holds c.unlockable.result) (holds after.done) (Unlockable (view a.workload.now) a.job.now.job_type s) c.unlockable.ensures c.arrive.ensures.done))

pub returns-in-Some-next_state-clause-next : goal.returns-in-Some-next_state-clause-next
returns-in-Some-next_state-clause-next g c =
    let a = c.args.self.now in
    let r = c.arrive in
    let after = changed a.job.now r.result in
    next_kept (view a.workload.now) (in_state (job_view a.job.now) c.in-Some-next_state.s (holds after.done)) after a.job.now.next r.ensures.job r.ensures.next a.sound.next

pub returns-in-Some-lowest-clause-steps : goal.returns-in-Some-lowest-clause-steps
returns-in-Some-lowest-clause-steps g c =
    let d = c.in-Some-lowest.d in
    let e = c.in-Some-lowest.ensures in
    let r = c.release-in-Some-lowest in
    let after = changed c.args.self.now.job.now r.result in
    rw r.ensures.job (closes d (holds after.held) c.in_default.ensures c.if-job.true c.in-None.ensures (lowest_of (holds c.args.self.now.job.now.held) d e.0 e.1) r.ensures.held)

pub returns-in-Some-lowest-clause-next : goal.returns-in-Some-lowest-clause-next
returns-in-Some-lowest-clause-next g c =
    let a = c.args.self.now in
    let r = c.release-in-Some-lowest in
    let after = changed a.job.now r.result in
    next_kept (view a.workload.now) (holding (job_view a.job.now) (holds after.held)) after a.job.now.next r.ensures.job r.ensures.next a.sound.next

pub returns-in-None-lowest-clause-steps : goal.returns-in-None-lowest-clause-steps
returns-in-None-lowest-clause-steps g c = (finishes c.in_default.ensures c.if-job.true c.in-None.ensures c.in-None-lowest.ensures)

pub returns-in-None-lowest-clause-next : goal.returns-in-None-lowest-clause-next
returns-in-None-lowest-clause-next g c = c.args.self.now.sound.next

pub returns-then-contains-clause-steps : goal.returns-then-contains-clause-steps
returns-then-contains-clause-steps g c =
    let w = c.args.self.now.workload.now in
    let R = c.args.self.now.job.now in
    let x = c.state-item.result in
    let e = c.state-item.ensures in
    let vs = g.S.ShowingStore.values c.args.store.now in
    let new = g.S.ShowingStore.values c.work_of_state-register.new.store in
    let q = c.work_of_state-register.result in
    let fq : SFits w32 q = search rules in
    let fo : SFits w32 x.operand = search rules in
    let fr : SFits w32 R.register = search rules in
    let done : WorksIfThere (view w) (kind_view g.K.Kind) R.job_type R.state vs R.register new q =
    subst (λ (p : ℤ). WorksIfThere (view w) (kind_view g.K.Kind) R.job_type R.state vs p new q) (to_z-of_z w32 _ fr)
    (c.work_of_state-register.ensures.works (view w) R.job_type R.state (sym e.item) (sym e.code) (sym (to_z-of_z w32 _ fo ∙ e.operand))) in
    let here : holds R.held ((view w).item R.job_type R.state) ≡ true = subst (λ (y : ℕ). holds R.held y ≡ true) e.item (sym c.if-contains.ensures) in
    let stepped = works new q c.in_default.ensures c.if-job.false here done in
    subst (λ (p : ℤ). Steps (view w) (kind_view g.K.Kind) (Holding c.args.shift.now.places) vs (job_view R) (worked x.item) new (job_view (changed R (Worked p)))) (sym (to_z-of_z w32 _ fq))
    (subst (λ (i : ℕ). Steps (view w) (kind_view g.K.Kind) (Holding c.args.shift.now.places) vs (job_view R) (worked i) new (job_view (changed R (Worked q)))) (sym e.item) stepped)

pub returns-then-contains-clause-next : goal.returns-then-contains-clause-next
returns-then-contains-clause-next g c = c.args.self.now.sound.next

pub returns-in-Some-holder-clause-steps : goal.returns-in-Some-holder-clause-steps
returns-in-Some-holder-clause-steps g c =
    let free = subst (λ (y : ℕ). holds c.args.self.now.job.now.held y ≡ false) c.state-item.ensures.item (sym c.if-contains.ensures) in
    waits c.wanted-d.result c.in-Some-holder.q c.in_default.ensures c.if-job.false free c.wanted-d.ensures.wants c.in-Some-holder.ensures

pub returns-in-Some-holder-clause-next : goal.returns-in-Some-holder-clause-next
returns-in-Some-holder-clause-next g c = c.args.self.now.sound.next

pub returns-in-None-holder-clause-steps : goal.returns-in-None-holder-clause-steps
returns-in-None-holder-clause-steps g c =
    let free = subst (λ (y : ℕ). holds c.args.self.now.job.now.held y ≡ false) c.state-item.ensures.item (sym c.if-contains.ensures) in
    let e = c.lock.ensures in
    let after = changed c.args.self.now.job.now c.lock.result in
    rw e.job (locks c.wanted-d.result (holds after.held) (holds after.locked) c.in_default.ensures c.if-job.false free c.wanted-d.ensures.wants c.in-None-holder.ensures e.held e.locked)

pub returns-in-None-holder-clause-next : goal.returns-in-None-holder-clause-next
returns-in-None-holder-clause-next g c =
    let a = c.args.self.now in
    let W = view a.workload.now in
    let J = job_view a.job.now in
    let e = c.lock.ensures in
    let after = changed a.job.now c.lock.result in
    next_kept W (locking J (holds after.held) (holds after.locked)) after after.next e.job refl
    (next_locked W (well_formed a.workload.now) J a.sound.job c.wanted-d.result c.wanted-d.ensures.wants (holds after.locked) e.locked a.job.now.next c.children.result after.next a.sound.next c.children.ensures e.next)
