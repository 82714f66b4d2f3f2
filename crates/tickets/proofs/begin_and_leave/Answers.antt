use Rattle.std.proofs.Common.{◌≡◌, ℕ, SFits, subst, w32, ℤ, rules}
use Rattle.std.proofs.lemmas.Int.{to_z-of_z}
use Rattle.model.specs.Table as model
use Rattle.table.specs.Answers.{Moved, leave_answer}
use Rattle.table.specs.Numbers.{number}
use Rattle.tickets.specs.Callers.BegunAndLeft.{refused, left}
use Rattle.tickets.proofs.begin_and_leave.Goals as goal

pub returns-in_err-ticket : goal.returns-in_err-ticket
returns-in_err-ticket g c =
    let a = c.args.argument in
    let fits : SFits w32 a = search rules in
    let why = c.in_err-ticket.field-0.0 in
    let moves = subst (λ (x : ℤ). Moved g.K.Kind g.S.ShowingStore c.args.table.now (model.begin c.args.place c.args.job_type x) (model.refused (number why)) c.begin.new.self)
    (to_z-of_z w32 a fits) c.in_err-ticket.ensures.moves in
    refused why (search rules) moves

pub returns : goal.returns
returns g c =
    let a = c.args.argument in
    let fits : SFits w32 a = search rules in
    let begun = subst (λ (x : ℤ). Moved g.K.Kind g.S.ShowingStore c.args.table.now (model.begin c.args.place c.args.job_type x) model.began c.begin.new.self)
    (to_z-of_z w32 a fits) c.in_ok-ticket.ensures.moves in
    let same : c.in_ok-ticket.ticket.place ≡ c.args.place = search rules in
    let gone = subst (λ (p : ℕ). Moved g.K.Kind g.S.ShowingStore c.begin.new.self (model.leave p) (leave_answer c.leave.result) c.leave.new.self)
    same c.leave.ensures.moves in
    left c.begin.new.self begun gone
