use Rattle.std.proofs.Common.{w32, SFits, rules}
use Rattle.std.proofs.lemmas.Bool.{not-false, not-true}
use Rattle.std.proofs.lemmas.Int.{to_z-of_z}
use Rattle.table.proofs.Moving.{collected_so, too_early}
use Rattle.table.proofs.definition.Table.collect.Goals as goal

pub returns-then-not-job-clause-moves : goal.returns-then-not-job-clause-moves
returns-then-not-job-clause-moves g c =
    let job = c.in-Some.job in
    rw (← c.place-place.ensures)
    (too_early g.K.Kind g.S.ShowingStore c.args.self.now c.place-place.result c.args.self.now.shift.places job c.in-Some.ensures (not-true job.finished c.if-not-job.true))

pub returns-clause-moves : goal.returns-clause-moves
returns-clause-moves g c =
    let job = c.in-Some.job in
    let fits : SFits w32 job.register = search rules in
    rw (← c.place-place.ensures)
    (collected_so g.K.Kind g.S.ShowingStore c.args.self.now c.place-place.result c.clear.new.self.places job c.in-Some.ensures _ (to_z-of_z w32 job.register fits) (not-false job.finished c.if-not-job.false) c.clear.ensures.places)
