use Rattle.std.proofs.Common.{arith}
use Rattle.workload.specs.View.{view}
use Rattle.jobs.proofs.Lockers.{held_set}
use Rattle.jobs.proofs.Keeping.{sound_set}
use Rattle.jobs.proofs.shift.Shift.put.Goals as goal

pub invariant_of-self-clause-sound : goal.invariant_of-self-clause-sound
invariant_of-self-clause-sound c =
    let s = c.args.self.now in
    sound_set (view s.workload) s.places c.args.place c.args.there (omega (arith, s.sixteen, c.requires.within)) c.requires.sound s.sound

pub invariant_of-self-clause-held : goal.invariant_of-self-clause-held
invariant_of-self-clause-held c =
    let s = c.args.self.now in
    held_set s.lockers s.places c.args.place c.args.there (omega (arith, s.sixteen, c.requires.within)) c.requires.locked s.held
