use Rattle.std.proofs.Common.{◌≡◌, [], map, length, vec_items, ap, ◌∙◌, subst, arith}
use Rattle.model.specs.Workload.{Workload}
use Rattle.model.specs.Journal.{new, Reached, Promise}
use Rattle.model.proofs.Answered.{reached_length}
use Rattle.kinds.specs.View.{view as kind_view}
use Rattle.workload.specs.View.{view as workload_view}
use Rattle.table.specs.View.{graph, view}
use Rattle.table.specs.Answers.{logged}
use Rattle.table.proofs.rows.run_in.Goals as goal

pub show_in-shown-requires : goal.show_in-shown-requires
show_in-shown-requires g c =
    let m = c.new-table.result in
    let n = c.perform_in-answers.new.self in
    let values = g.S.ShowingStore.values in
    let seen = view g.S.ShowingStore in
    let same : length (values n.store) ≡ length (values c.args.store) =
    reached_length (graph m) (kind_view g.K.Kind) _ (seen n)
    (c.perform_in-answers.ensures.leads (values c.args.store) [] (new (seen m) c.new-table.ensures.new)) in
    let kept : length (values c.finish-store.result) ≡ length (values n.store) = ap (λ (s : g.row.S.Denot). length (values s)) c.finish-store.ensures in
    let room = c.requires.shown in
    (room.0, omega arith)

pub returns : goal.returns
returns g c =
    let m = c.new-table.result in
    let n = c.perform_in-answers.new.self in
    let K = kind_view g.K.Kind in
    let seen = view g.S.ShowingStore in
    let first = g.S.ShowingStore.values c.args.store in
    let done = c.perform_in-answers.ensures in
    let es = logged c.args.calls.now (vec_items c.perform_in-answers.result) [] in
    let start = new (seen m) c.new-table.ensures.new in
    let e : graph m ≡ workload_view c.args.workload = ap workload_view c.new-table.ensures.workload in
    record {
      table = seen n;
      each = done.each;
      reached = subst (λ (W : Workload). Reached W K first es (seen n)) e (done.leads first [] start);
      promise = subst (λ (W : Workload). Promise W K first es (seen n)) e (done.promised first [] start);
      shows = c.show_in-shown.ensures ∙ ap (λ (s : g.row.S.Denot). map g.K.Kind.number (g.S.ShowingStore.values s)) c.finish-store.ensures;
    }
