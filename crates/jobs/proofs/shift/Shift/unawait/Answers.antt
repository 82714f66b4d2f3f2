use Rattle.std.proofs.Common.{sym}
use Rattle.workload.specs.View.{view}
use Rattle.workload.proofs.Uses.{well_formed}
use Rattle.jobs.specs.Turns.{lets_go}
use Rattle.jobs.proofs.Lockers.{locked_left}
use Rattle.jobs.proofs.Keeping.{sound_left, sound_taken}
use Rattle.jobs.proofs.shift.Shift.unawait.Goals as goal

pub put-requires-clause-sound : goal.put-requires-clause-sound
put-requires-clause-sound c =
    let s = c.args.self.now in
    let R = c.in-Some.job in
    let W = view s.workload in
    let alone = c.left_alone in
    sound_taken W alone.result (sound_left W (well_formed s.workload) R alone.result (s.sound c.args.place R (sym c.in-Some.ensures)) alone.ensures.job alone.ensures.next)

pub put-requires-clause-locked : goal.put-requires-clause-locked
put-requires-clause-locked c =
    let s = c.args.self.now in
    locked_left s.lockers s.places s.held c.args.place c.in-Some.job (sym c.in-Some.ensures) c.left_alone.result c.left_alone.ensures.job

pub returns-in-Some-clause-unawaited : goal.returns-in-Some-clause-unawaited
returns-in-Some-clause-unawaited c = lets_go c.in-Some.job c.left_alone.result (sym c.in-Some.ensures) c.left_alone.ensures.job c.put.ensures.places
