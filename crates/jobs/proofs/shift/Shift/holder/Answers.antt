use Rattle.std.proofs.Common.{slice_index_or}
use Rattle.jobs.proofs.Lockers.{found_by}
use Rattle.jobs.proofs.shift.Shift.holder.Goals as goal

pub returns : goal.returns
returns c =
    let s = c.args.self.now in
    let last = slice_index_or s.lockers c.args.d 0 in
    rw c.then_some.ensures (found_by s.places last c.args.d (λ o h. s.held o c.args.d h) c.holds_at.result c.holds_at.ensures)
