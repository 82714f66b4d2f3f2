use Rattle.table.proofs.Moving.{stepped}
use Rattle.table.proofs.definition.Table.step.Goals as goal

pub returns-clause-moves : goal.returns-clause-moves
returns-clause-moves g c =
    rw c.ok_or.ensures.value
    (stepped g.K.Kind g.S.ShowingStore c.args.self.now c.args.place c.step.new.self.places _ c.step.result c.if-place-ge16.false c.step.ensures.stepped)
