use Rattle.std.proofs.Common.{List, ◌∙◌, subst, refl}
use Rattle.std.proofs.lemmas.Result.{err_from_is_err_and}
use Rattle.exports.proofs.Failing.{reading}
use Rattle.exports.proofs.runs.run_file.Goals as goal
use Rattle.stores.specs.Stores.{counted}
use Rattle.table.specs.Answers.{EndsWell}
use Rattle.table.specs.declared.answer.Call.{Call}

pub returns-in_err-workload : goal.returns-in_err-workload
returns-in_err-workload g c =
    let exit = err_from_is_err_and c.from_residual.result c.from_residual.ensures.1 in
    rw (exit.1, exit.2) (reading _ refl c.in_err-workload.ensures)

pub returns : goal.returns
returns g c =
    let w = c.in_ok-workload.workload in
    let f = c.in_ok-workload.ensures in
    record {
      workload = w;
      file = (f.0, f.1, f.2);
      ends = subst (λ (cs : List Call). EndsWell g.K.Kind w (counted c.args.row.now) cs c.in_ok-run_row.field-0)
          (c.as_slice.ensures.value ∙ c.in_ok-calls.ensures) c.in_ok-run_row.ensures;
    }
