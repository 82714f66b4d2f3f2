use Rattle.std.proofs.Common.{◌≡◌, List, Option, set, slice_index_or, None, refl, ap, arith, subst}
use Rattle.kinds.specs.View.{view as kind_view}
use Rattle.workload.specs.View.{view}
use Rattle.workload.proofs.Uses.{few_items, well_formed}
use Rattle.jobs.specs.declared.record.JobRecord.{JobRecord}
use Rattle.jobs.specs.Changes.{changed, changed_place}
use Rattle.jobs.specs.Turns.{steps}
use Rattle.jobs.specs.View.{Holding, SoundRecord, job_view, told_view}
use Rattle.jobs.proofs.Lockers.{locked_facts, locked_step, wanted_low}
use Rattle.jobs.proofs.Keeping.{changed_view, sound_changed, sound_step}
use Rattle.jobs.proofs.shift.Shift.step.Goals as goal

pub invariant_of-active : goal.invariant_of-active
invariant_of-active g c =
    let s = c.args.self.now in
    let R = c.in_ok-job.job.now in
    record { sound = s.sound c.args.place R c.in_ok-job.ensures.0 }

pub note-requires-clause-within : goal.note-requires-clause-within
note-requires-clause-within g c d e =
    let s = c.args.self.now in
    let W = view s.workload in
    let R = c.in_ok-job.job.now in
    let S = (s.sound c.args.place R c.in_ok-job.ensures.0).job in
    let f = locked_facts W (kind_view g.K.Kind) (Holding s.places) _ (job_view R) _ _ _ c.step-answer.ensures.steps d (ap told_view e) in
    omega (arith, wanted_low W (well_formed s.workload) (job_view R) S d f.0, few_items s.workload)

pub note-requires-clause-free : goal.note-requires-clause-free
note-requires-clause-free g c d e =
    let s = c.args.self.now in
    (locked_facts (view s.workload) (kind_view g.K.Kind) (Holding s.places) _ (job_view c.in_ok-job.job.now) _ _ _ c.step-answer.ensures.steps d (ap told_view e)).1

pub change-requires-clause-sound : goal.change-requires-clause-sound
change-requires-clause-sound g c =
    let s = c.args.self.now in
    let W = view s.workload in
    let R = c.in_ok-job.job.now in
    let S = (s.sound c.args.place R c.in_ok-job.ensures.0).job in
    let change = c.step-answer.result.1 in
    let job = sound_step W (well_formed s.workload) (job_view R) S (kind_view g.K.Kind) (Holding s.places) _ _ _ (job_view (changed R change)) c.in_ok-job.ensures.1 c.step-answer.ensures.steps in
    let kept : SoundRecord W (changed R change) = record { job = job; next = c.step-answer.ensures.next } in
    rw c.note.ensures.workload (rw c.note.ensures.places (sound_changed W (slice_index_or s.places c.args.place None) R change c.in_ok-job.ensures.0 kept))

pub change-requires-clause-locked : goal.change-requires-clause-locked
change-requires-clause-locked g c =
    let s = c.args.self.now in
    let W = view s.workload in
    let R = c.in_ok-job.job.now in
    let x = c.step-answer.result in
    let S = (s.sound c.args.place R c.in_ok-job.ensures.0).job in
    let facts = locked_facts W (kind_view g.K.Kind) (Holding s.places) _ (job_view R) _ _ _ c.step-answer.ensures.steps in
    rw c.note.ensures.places (rw c.note.ensures.lockers (locked_step s.lockers s.places s.held c.args.place R c.in_ok-job.ensures.0 W (kind_view g.K.Kind) _ x.0 _ x.1
    (λ d e. omega (arith, wanted_low W (well_formed s.workload) (job_view R) S d (facts d e).0, few_items s.workload, s.every_item)) c.step-answer.ensures.steps))

pub returns-clause-stepped : goal.returns-clause-stepped
returns-clause-stepped g c =
    let s = c.args.self.now in
    let R = c.in_ok-job.job.now in
    let p = c.args.place in
    let there = slice_index_or s.places p None in
    let x = c.step-answer.result in
    let after = subst (λ (ps : List (Option JobRecord)). c.change.new.self.places ≡ set ps p (changed_place (slice_index_or ps p None) x.1)) c.note.ensures.places c.change.ensures.places in
    steps R (changed R x.1) x.0 (changed_place there x.1) c.in_ok-job.ensures.0 c.in_ok-job.ensures.1 c.step-answer.ensures.steps
    (changed_view there R x.1 c.in_ok-job.ensures.0) after refl
