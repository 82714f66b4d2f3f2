use Rattle.std.proofs.Common.{Option, arith, subst, sym}
use Rattle.workload.specs.View.{view}
use Rattle.jobs.specs.declared.record.JobRecord.{JobRecord}
use Rattle.jobs.specs.View.{LockedAt, PlaceSound}
use Rattle.jobs.proofs.Lockers.{held_set}
use Rattle.jobs.proofs.Keeping.{sound_set}
use Rattle.jobs.proofs.shift.Shift.change.Goals as goal

pub invariant_of-self-clause-sound : goal.invariant_of-self-clause-sound
invariant_of-self-clause-sound c =
    let s = c.args.self.now in
    sound_set (view s.workload) s.places c.args.place c.write.new.place (omega (arith, s.sixteen, c.requires.within)) (subst (λ (y : Option JobRecord). PlaceSound (view s.workload) y) (sym c.write.ensures) c.requires.sound) s.sound

pub invariant_of-self-clause-held : goal.invariant_of-self-clause-held
invariant_of-self-clause-held c =
    let s = c.args.self.now in
    held_set s.lockers s.places c.args.place c.write.new.place (omega (arith, s.sixteen, c.requires.within)) (subst (λ (y : Option JobRecord). LockedAt s.lockers c.args.place y) (sym c.write.ensures) c.requires.locked) s.held
