use Rattle.std.proofs.Common.{◌≡◌, ℕ, subst, rules}
use Rattle.model.specs.Table as model
use Rattle.table.specs.Answers.{Moved, leave_answer}
use Rattle.table.specs.Numbers.{number}
use Rattle.tickets.proofs.collect_or_leave.Goals as goal

-- the ticket that comes back is the one that was given
pub returns-in-Err : goal.returns-in-Err
returns-in-Err g c =
    let same : c.in-Err.back.place ≡ c.args.ticket.place = search rules in
    let left = subst (λ (p : ℕ). Moved g.K.Kind g.S.ShowingStore c.collect.new.self (model.leave p) (leave_answer c.leave.result) c.leave.new.self) same c.leave.ensures.moves in
    (number c.in-Err.field-0-0, c.collect.new.self, leave_answer c.leave.result, c.in-Err.ensures.moves, left)
