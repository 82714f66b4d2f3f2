use Rattle.std.proofs.Common.{ℕ, subst, SFits, w32, arith, rules}
use Rattle.std.proofs.lemmas.Int.{to_z-of_z}
use Rattle.yard_text.specs.Input.{Writes}
use Rattle.yard_text.proofs.Splits.{no_line_feed, no_blank, no_type, no_argument, line_from_parts}
use Rattle.yard_text.proofs.Numbers.{small, not_small}
use Rattle.yard_text.proofs.input.begin_line.Goals as goal

pub returns-in_err-line : goal.returns-in_err-line
returns-in_err-line c = rw c.from_residual.ensures (no_line_feed c.args.bytes.now c.in_err-line.ensures)

pub returns-in_err-job_type : goal.returns-in_err-job_type
returns-in_err-job_type c = rw c.from_residual-in_err-job_type.ensures (no_blank c.in_ok-line.ensures c.in_err-job_type.ensures)

pub returns-in_err-number : goal.returns-in_err-number
returns-in_err-number c = rw c.from_residual-in_err-number.ensures
    (no_type c.in_ok-line.ensures c.in_ok-job_type.ensures (λ n w le. c.in_err-number.ensures n w (omega arith)))

pub returns-in_err-ok : goal.returns-in_err-ok
returns-in_err-ok c =
    let type = c.in_ok-job_type.job_type.now in
    let none = not_small type c.try_from.result c.in_ok-number.field-0 c.in_ok-number.ensures.0 c.try_from.ensures c.in_err-ok.ensures.value in
    rw c.from_residual-in_err-ok.ensures (no_type c.in_ok-line.ensures c.in_ok-job_type.ensures none)

pub returns-in_err-argument : goal.returns-in_err-argument
returns-in_err-argument c = rw c.from_residual-in_err-argument.ensures
    (no_argument c.in_ok-line.ensures c.in_ok-job_type.ensures c.in_err-argument.ensures)

pub returns : goal.returns
returns c =
    let type = c.in_ok-job_type.job_type.now in
    let t = c.in_ok-ok.field-0 in
    let a = c.in_ok-argument.field-0 in
    let fits : SFits w32 a = search rules in
    let byte = small c.try_from.result c.in_ok-number.field-0 t c.try_from.ensures c.in_ok-ok.ensures.value in
    let whole = line_from_parts c.in_ok-line.ensures c.in_ok-job_type.ensures (subst (λ (n : ℕ). Writes type n) byte.0 c.in_ok-number.ensures.0) byte.1 c.in_ok-argument.ensures in
    rw (to_z-of_z w32 a fits) whole
