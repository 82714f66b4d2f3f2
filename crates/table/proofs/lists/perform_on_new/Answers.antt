use Rattle.std.proofs.Common.{[], sym, subst}
use Rattle.std.proofs.lemmas.Result.{IfOk-weaker, MatchResult-weaker}
use Rattle.model.specs.Journal.{New, new}
use Rattle.table.specs.View.{view}
use Rattle.table.specs.declared.definition.Table.{Table}
use Rattle.table.proofs.lists.perform_on_new.Goals as goal

pub returns-clause-reached : goal.returns-clause-reached
returns-clause-reached g c =
    let m = c.args.table in
    let seen = view g.S.ShowingStore in
    let first = g.S.ShowingStore.values m.store in
    MatchResult-weaker c.perform-answers.result c.perform-answers.ensures.leads
    (λ v h. h first [] (new (seen m) c.requires))
    (λ x q. subst (λ (t : Table g.row.K.Denot g.row.S.Denot g.row.K-Value.Denot). New first (seen t)) (sym q) c.requires)

pub returns-clause-promise : goal.returns-clause-promise
returns-clause-promise g c =
    let m = c.args.table in
    let seen = view g.S.ShowingStore in
    let first = g.S.ShowingStore.values m.store in
    IfOk-weaker c.perform-answers.result _ _ (λ v h. h first [] (new (seen m) c.requires)) c.perform-answers.ensures.promised
