use Rattle.std.proofs.Common.{◌≡◌, List, map, ap, ◌∙◌, subst, refl}
use Rattle.exports.proofs.Failing.{reading}
use Rattle.std.proofs.lemmas.Result.{IfOk-at_ok, MatchResult-at_ok, err_from_is_err_and}
use Rattle.stores.specs.declared.joined.JoinedStore.{JoinedStore}
use Rattle.stores.specs.declared.row.RowStore.{RowStore}
use Rattle.table.specs.Answers.{EndsWell}
use Rattle.table.specs.View.{table_over}
use Rattle.table.specs.declared.answer.Call.{Call}
use Rattle.table.specs.declared.rows.Outcome.{Outcome}
use Rattle.exports.specs.Plain.{call_of}
use Rattle.exports.specs.Runs.{joined}
use Rattle.exports.proofs.joined.run_joined.Goals as goal

-- the values of two joined row stores
values : {K V : Type 0} → JoinedStore (RowStore K V) (RowStore K V) → List V
values s = joined s.first.row.now s.second.row.now

pub returns-in_err-workload : goal.returns-in_err-workload
returns-in_err-workload g c =
    let exit = err_from_is_err_and c.from_residual.result c.from_residual.ensures.1 in
    rw (exit.1, exit.2) (reading _ (refl, refl) c.in_err-workload.ensures)

pub returns : goal.returns
unfolding values
returns g c =
    let V = g.row.K-Value.Denot in
    let f = c.in_ok-workload.ensures in
    let w = c.in_ok-workload.workload in
    let store = c.new-store.result in
    let end = c.run-table.result.0 in
    let was = c.in_ok-answers.was in
    let told = c.run-table.ensures in
    let outcome : Outcome = record { answers = c.in_ok-answers.answers; shown = c.in_ok-shown.shown } in
    let front : store.first.row.now ≡ c.args.front.now = ap (λ s. s.row.now) c.new-store.ensures.0 ∙ c.new.ensures.values in
    let back : store.second.row.now ≡ c.args.back.now = ap (λ s. s.row.now) c.new-store.ensures.1 ∙ c.new-2.ensures.values in
    let first : values store ≡ joined c.args.front.now c.args.back.now =
    ap (λ vs. joined vs store.second.row.now) front ∙ ap (joined c.args.front.now) back in
    record {
      workload = w;
      file = (f.0, f.1, f.2);
      ends = subst (λ (vs : List V). EndsWell g.K.Kind w vs (map call_of c.args.plain.now) outcome) first
          (subst (λ (cs : List Call). EndsWell g.K.Kind w (values store) cs outcome) (c.as_slice.ensures.value ∙ c.in_ok-calls.ensures)
          record {
            table = table_over (values end.store) end.shift.places;
            each = IfOk-at_ok _ was told.each;
            reached = MatchResult-at_ok _ _ c.in_ok-answers.answers was told.reached;
            promise = IfOk-at_ok _ was told.promise;
            shows = c.in_ok-shown.ensures ∙ ap (λ s. map g.K.Kind.number (values s)) c.finish-store.ensures;
          });
    }
