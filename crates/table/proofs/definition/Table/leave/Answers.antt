use Rattle.table.proofs.Moving.{left_alone, left_so}
use Rattle.table.proofs.definition.Table.leave.Goals as goal

pub returns-then-job-clause-moves : goal.returns-then-job-clause-moves
returns-then-job-clause-moves g c =
    rw (← c.place-place.ensures)
    (left_so g.K.Kind g.S.ShowingStore c.args.self.now c.place-place.result c.clear.new.self.places c.in-Some.job c.in-Some.ensures c.if-job.true c.clear.ensures.places)

pub returns-else-job-clause-moves : goal.returns-else-job-clause-moves
returns-else-job-clause-moves g c =
    rw (← c.place-place.ensures)
    (left_alone g.K.Kind g.S.ShowingStore c.args.self.now c.place-place.result c.unawait.new.self.places c.in-Some.job c.in-Some.ensures c.if-job.false c.unawait.ensures.unawaited)
