use Rattle.std.proofs.Common.{◌≡◌, true, false, ℤ, Some, None, Option, is_some, slice_index_or, sym, refl, ap, ◌∙◌, arith, to_z-of_z}
use Rattle.model.specs.Table.{new_job}
use Rattle.workload.specs.View.{view}
use Rattle.model.proofs.Tree.{root_item}
use Rattle.workload.proofs.Uses.{few_items, well_formed}
use Rattle.jobs.specs.Turns.{enters, place_taken}
use Rattle.jobs.proofs.Lockers.{locked_new}
use Rattle.jobs.proofs.Keeping.{sound_new, sound_taken}
use Rattle.jobs.proofs.shift.Shift.enter.Goals as goal

there : {A : Type 0} (o : Option A) → is_some o ≡ true → (x : A) × (o ≡ Some x)
there None h = cc
there (Some x) h = (x, refl)

none_there : {A : Type 0} (o : Option A) → is_some o ≡ false → o ≡ None
none_there None h = refl
none_there (Some x) h = cc

pub new-requires : goal.new-requires
new-requires c =
    let w = c.args.self.now.workload in
    let plan = c.in-Some.ensures in
    omega (arith, root_item (view w) (well_formed w) c.args.job_type plan.0 plan.1.root, few_items w)

pub put-requires-clause-sound : goal.put-requires-clause-sound
put-requires-clause-sound c =
    let s = c.args.self.now in
    let W = view s.workload in
    let R = c.new.result in
    let plan = c.in-Some.ensures in
    sound_taken W R (sound_new W (well_formed s.workload) c.args.job_type c.in-Some.plan.now.root _ R plan.0 plan.1.root c.new.ensures.job c.new.ensures.next)

pub put-requires-clause-locked : goal.put-requires-clause-locked
put-requires-clause-locked c = locked_new c.args.self.now.lockers c.args.place c.args.job_type _ c.new.result c.new.ensures.job

pub returns-then-is_some-clause-entered : goal.returns-then-is_some-clause-entered
returns-then-is_some-clause-entered c =
    let taken = there (slice_index_or c.args.self.now.places c.args.place None) (sym (ap is_some c.at.ensures) ∙ sym c.is_some.ensures ∙ c.if-is_some.true) in
    place_taken taken.0 (omega arith) c.in-Some.ensures.0 taken.1 refl refl

pub returns-clause-entered : goal.returns-clause-entered
returns-clause-entered c =
    enters c.new.result (omega arith) c.in-Some.ensures.0
    (none_there _ (sym (ap is_some c.at.ensures) ∙ sym c.is_some.ensures ∙ c.if-is_some.false))
    (c.new.ensures.job ∙ ap (λ (a : ℤ). new_job c.args.job_type a) (to_z-of_z c.ranges.argument)) c.put.ensures.places refl
