use Rattle.std.proofs.Common.{◌≡◌, ◌∙◌, sym, ap, inl, inr, List, ℕ, ℤ, Some, string_bytes, rules}
use Rattle.std.proofs.lemmas.Result.{IfOk-weaker}
use Rattle.kinds.specs.declared.kind.Kind as kinds
use Rattle.workload.specs.Files.{NotRead}
use Rattle.workload.specs.Numbers.{numbered}
use Rattle.workload.specs.declared.fault.Fault.{Fault}
use Rattle.workload.specs.declared.fault.Fault.TheVariants.{Memory}
use Rattle.yard_text.specs.Report.{Prints, refused_line}
use Rattle.yard_text.specs.Report.Prints.{refuses, runs}
use Rattle.yard_text.proofs.report.report.Goals as goal

-- want of memory has no line, so what was told is the first fault
told : {K : Type 0} (tally : kinds.Ghosts K ℤ) (file input text : List ℕ) (f : Fault) → NotRead file f → refused_line f text → Prints tally file input text
told tally file input text f (inl r) l = refuses f r l
told tally file input text f (inr m) l =
    let none : numbered Memory ≡ Some (l.0, l.1) = ap numbered (sym m.0) ∙ l.2 in
    search rules

pub returns-in-Ok : goal.returns-in-Ok
returns-in-Ok c =
    let filled = c.in-Ok.ensures in
    IfOk-weaker c.ran.result _ (λ s. Prints _ c.args.file.now c.args.input.now (string_bytes s))
    (λ s r. runs c.in-Ok.workload filled.0 filled.1 filled.2 r) c.ran.ensures

pub returns-in-Err : goal.returns-in-Err
returns-in-Err c =
    IfOk-weaker c.refused.result _ (λ s. Prints _ c.args.file.now c.args.input.now (string_bytes s))
    (λ s l. told _ c.args.file.now c.args.input.now (string_bytes s) c.in-Err.fault c.in-Err.ensures l) c.refused.ensures
