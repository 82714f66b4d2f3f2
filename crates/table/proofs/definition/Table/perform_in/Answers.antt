use Rattle.std.proofs.Common.{◌≡◌, length, vec_items, sym, ap, ◌∙◌, take_all, rules}
use Rattle.model.proofs.Main.{table_stands_lem}
use Rattle.kinds.specs.View.{view as kind_view}
use Rattle.workload.specs.View.{view as workload_view}
use Rattle.workload.proofs.Uses.{well_formed}
use Rattle.table.specs.View.{graph, view}
use Rattle.table.proofs.Logs.{leads_next}
use Rattle.table.proofs.definition.Table.perform_in.Goals as goal

pub loop-call-preserved : goal.loop-call-preserved
loop-call-preserved g c =
    let i = c.loop-call.invariant in
    let kept = c.call-answer.ensures.kept in
    let so_far : length (vec_items c.loop-call.answers) ≡ c.loop-call.call-index = sym c.loop-call.answers.ok.0 ∙ i.answered in
    record {
      answered = search rules;
      room = search rules;
      kept = record {
        workload = kept.workload ∙ i.kept.workload;
        outside = g.met.S.WorkingStore.chain c.args.self.now.store c.loop-call.self.store c.call-answer.new.self.store i.kept.outside kept.outside;
      };
      leads = leads_next g.K.Kind g.S.ShowingStore c.args.self.now c.loop-call.self c.call-answer.new.self c.args.calls.now c.loop-call.call-index _
          (vec_items c.loop-call.answers) _ c.call-answer.result c.loop-call-test.true so_far (ap workload_view i.kept.workload) i.leads
          c.push_reserved.ensures.items c.call-answer.ensures.moves;
      within = search rules;
    }

pub returns-clause-leads : goal.returns-clause-leads
returns-clause-leads g c = rw (take_all c.loop-call.call-index c.args.calls.now c.loop-call-test.false) at c.loop-call.invariant.leads

pub returns-clause-promised : goal.returns-clause-promised
returns-clause-promised g c first past h =
    let m = c.args.self.now in
    table_stands_lem g.row.K-Value.Denot (graph m) (well_formed m.shift.workload) (kind_view g.K.Kind) first _ (view g.S.ShowingStore c.loop-call.self)
    (returns-clause-leads g c first past h)
