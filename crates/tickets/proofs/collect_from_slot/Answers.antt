use Rattle.std.proofs.Common.{◌≡◌, ℕ, subst, rules}
use Rattle.model.specs.Table as model
use Rattle.table.specs.Answers.{Moved, leave_answer}
use Rattle.table.specs.Numbers.{number}
use Rattle.tickets.proofs.collect_from_slot.Goals as goal

-- the ticket that is taken out, and the one that comes back, are the one that was given
pub returns : goal.returns
returns g c =
    let taken : c.unwrap-taken.result.place ≡ c.args.ticket.place = search rules in
    let same : c.in-Err.again.place ≡ c.args.ticket.place = search rules in
    let why = number c.in-Err.field-0-0 in
    let refused = subst (λ (p : ℕ). Moved g.K.Kind g.S.ShowingStore c.args.table.now (model.collect p) (model.refused why) c.collect.new.self) taken c.in-Err.ensures.moves in
    let left = subst (λ (p : ℕ). Moved g.K.Kind g.S.ShowingStore c.collect.new.self (model.leave p) (leave_answer c.leave.result) c.leave.new.self) same c.leave.ensures.moves in
    (why, c.collect.new.self, leave_answer c.leave.result, refused, left)
