use Rattle.std.proofs.Common.{◌≡◌, ◌≤◌, List, length, subst, ap, ◌∙◌, arith, rules}
use Rattle.std.proofs.lemmas.List.{length-replicate, take_all}
use Rattle.std.proofs.lemmas.Result.{IfOk-weaker}
use Rattle.kinds.specs.declared.kind.Kind as kinds
use Rattle.stores.specs.Stores.{counted}
use Rattle.table.specs.Answers.{EndsWell}
use Rattle.table.specs.declared.answer.Call.{Call}
use Rattle.table.specs.declared.rows.Outcome.{Outcome}
use Rattle.workload.specs.declared.definition.Workload.{Workload}
use Rattle.yard_text.specs.Report.{three_lines, zeros}
use Rattle.yard_text.proofs.report.ran.Goals as goal

-- the same outcome, over equal values and equal calls
as_given
    : {K V : Type 0} (k : kinds.Ghosts K V) (w : Workload) (o : Outcome) (us vs : List V) (bs cs : List Call) → us ≡ vs → bs ≡ cs
    → EndsWell k w us bs o → EndsWell k w vs cs o
as_given k w o us vs bs cs e f x = subst (λ vs. EndsWell k w vs cs o) e (subst (λ cs. EndsWell k w us cs o) f x)

pub returns : goal.returns
returns c =
    let w = c.args.workload in
    let calls = c.in_ok-calls.calls.items in
    let outcome = c.in_ok-outcome.outcome in
    let row = c.as_mut_slice.result.now in
    let same : row ≡ zeros w = search rules in
    let few : length (zeros w) ≤ 4096 = simp length-replicate (omega (arith, w.items)) in
    let all : counted row ≡ zeros w = ap counted same ∙ take_all 4096 (zeros w) few in
    let made : c.as_slice.result.now ≡ calls = search rules in
    let told : c.as_slice-2.result.now ≡ calls = search rules in
    IfOk-weaker c.lines.result _ _
    (λ s e. record {
      calls = calls;
      outcome = outcome;
      asks = c.in_ok-calls.ensures;
      ends = as_given _ w outcome _ _ _ _ all made c.in_ok-outcome.ensures;
      lines = e ∙ ap (λ cs. three_lines cs outcome) told;
    }) c.lines.ensures
