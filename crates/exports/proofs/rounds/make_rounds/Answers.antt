use Rattle.std.proofs.Common.{◌≡◌, ℕ, vec_items, ap, sym, ◌∙◌, subst, arith}
use Rattle.kinds.specs.View.{view as kind_view}
use Rattle.model.specs.Journal.{Promise, Reached}
use Rattle.model.specs.Workload.{Workload}
use Rattle.table.specs.Answers.{logged}
use Rattle.table.specs.View.{graph, view}
use Rattle.workload.specs.View.{view as workload_view}
use Rattle.exports.specs.Runs.{LeadsRound, again, once}
use Rattle.exports.proofs.rounds.make_rounds.Goals as goal

pub loop-round-init : goal.loop-round-init
loop-round-init g c =
    let made = c.in_ok-answers.ensures in
    let ys = vec_items c.in_ok-answers.answers in
    record {
      same = made.kept.workload;
      leads = λ first past h. record {
        log = logged c.args.calls.now ys past;
        rounds = once ys made.each;
        reached = made.leads first past h;
        promise = made.promised first past h;
      };
    }

pub loop-round-preserved : goal.loop-round-preserved
loop-round-preserved g c =
    let i = c.loop-round.invariant in
    let made = c.in_ok-answers-2.ensures in
    let cs = c.args.calls.now in
    let ys = vec_items c.in_ok-answers-2.answers in
    let K = kind_view g.K.Kind in
    let m = c.loop-round.table in
    let seen = view g.S.ShowingStore in
    let after = seen c.perform-in-loop-round.new.self in
    let e : graph m ≡ graph c.args.table.now = ap workload_view i.same in
    record {
      same = made.kept.workload ∙ i.same;
      leads = λ first past h.
          let before = i.leads first past h in
          let there = subst (λ (W : Workload). Reached W K first before.log (seen m)) (sym e) before.reached in
          record {
            log = logged cs ys before.log;
            rounds = again c.loop-round._round (vec_items c.loop-round.answers) ys before.log before.rounds made.each;
            reached = subst (λ (W : Workload). Reached W K first (logged cs ys before.log) after) e (made.leads first before.log there);
            promise = subst (λ (W : Workload). Promise W K first (logged cs ys before.log) after) e (made.promised first before.log there);
          };
    }

pub returns : goal.returns
returns g c =
    let e : c.loop-round._round ≡ c.args.again = omega arith in
    subst (λ (n : ℕ). LeadsRound g.K.Kind g.S.ShowingStore c.args.table.now c.args.calls.now n (vec_items c.loop-round.answers) c.loop-round.table) e c.loop-round.invariant.leads
