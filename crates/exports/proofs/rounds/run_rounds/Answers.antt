use Rattle.std.proofs.Common.{◌≡◌, ℕ, List, [], ap, ◌∙◌, subst, refl}
use Rattle.std.proofs.lemmas.Result.{err_from_is_err_and}
use Rattle.exports.proofs.Failing.{reading}
use Rattle.model.specs.Journal.{new}
use Rattle.model.specs.Table as model
use Rattle.model.specs.Workload.{Workload}
use Rattle.stores.specs.Stores.{counted}
use Rattle.table.specs.declared.answer.Answer.{Answer}
use Rattle.table.specs.declared.answer.Call.{Call}
use Rattle.workload.specs.View.{view as workload_view}
use Rattle.exports.specs.Runs.{Rounded}
use Rattle.exports.proofs.rounds.run_rounds.Goals as goal

-- the same rounds under equal workloads, on equal values, of equal calls
same_rounds
    : {V : Type 0} (v w : Workload) (K : model.Kind V) (first values : List V) (bs cs : List Call) (n : ℕ) (ys : List Answer) (m : model.Table V)
    → v ≡ w → first ≡ values → bs ≡ cs → Rounded v K first [] bs n ys m → Rounded w K values [] cs n ys m
same_rounds v w K first values bs cs n ys m d e f r =
    subst (λ (W : Workload). Rounded W K values [] cs n ys m) d
    (subst (λ (vs : List _). Rounded v K vs [] cs n ys m) e
    (subst (λ (xs : List Call). Rounded v K first [] xs n ys m) f r))

pub returns-in_err-workload : goal.returns-in_err-workload
returns-in_err-workload g c =
    let exit = err_from_is_err_and c.from_residual.result c.from_residual.ensures.1 in
    rw (exit.1, exit.2) (reading _ refl c.in_err-workload.ensures)

pub returns : goal.returns
returns g c =
    let f = c.in_ok-workload.ensures in
    let made = c.new-table.ensures in
    let rounds = c.in_ok-answers.ensures _ [] (new _ made.new) in
    record {
      workload = c.in_ok-workload.workload;
      file = (f.0, f.1, f.2);
      table = _;
      rounded = same_rounds _ _ _ _ _ _ _ c.args.again _ _ (ap workload_view made.workload) (ap counted c.new.ensures.values)
          (c.as_slice.ensures.value ∙ c.in_ok-calls.ensures) rounds;
    }
