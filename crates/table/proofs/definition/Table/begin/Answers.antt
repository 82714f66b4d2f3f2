use Rattle.std.proofs.Common.{w32, SFits, rules}
use Rattle.std.proofs.lemmas.Int.{to_z-of_z}
use Rattle.std.proofs.lemmas.Result.{err_from_is_err_and}
use Rattle.table.proofs.Moving.{entered, not_entered}
use Rattle.table.proofs.definition.Table.begin.Goals as goal

pub returns-in_err-enter-clause-moves : goal.returns-in_err-enter-clause-moves
returns-in_err-enter-clause-moves g c =
    let exit = err_from_is_err_and c.from_residual.result c.from_residual.ensures.1 in
    let fits : SFits w32 c.args.argument = search rules in
    rw (exit.1, exit.2)
    (not_entered g.K.Kind g.S.ShowingStore c.args.self.now c.args.place c.enter.new.self.places c.args.job_type c.args.argument (c.fitting.ensures.0 c.if-not-fitting.false) c.enter.result c.in_err-enter.field-0.0
    (simp to_z-of_z at c.enter.ensures.entered) c.in_err-enter.was)

pub returns-clause-moves : goal.returns-clause-moves
returns-clause-moves g c =
    let fits : SFits w32 c.args.argument = search rules in
    entered g.K.Kind g.S.ShowingStore c.args.self.now c.args.place c.enter.new.self.places c.args.job_type c.args.argument (c.fitting.ensures.0 c.if-not-fitting.false) c.enter.result
    (simp to_z-of_z at c.enter.ensures.entered) c.in_ok-enter.was
