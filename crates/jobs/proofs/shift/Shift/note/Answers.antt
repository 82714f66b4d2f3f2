use Rattle.std.proofs.Common.{◌∙◌}
use Rattle.std.proofs.lemmas.List.{length-set}
use Rattle.jobs.proofs.Lockers.{held_free}
use Rattle.jobs.proofs.shift.Shift.note.Goals as goal

pub invariant_of-self-clause-every_item : goal.invariant_of-self-clause-every_item
invariant_of-self-clause-every_item c = let s = c.args.self.now in length-set s.lockers c.in-Locked.d c.args.place ∙ s.every_item

pub invariant_of-self-clause-held : goal.invariant_of-self-clause-held
invariant_of-self-clause-held c =
    let s = c.args.self.now in
    held_free s.lockers s.places c.args.place c.in-Locked.d (c.requires.free c.in-Locked.d c.in-Locked.is) s.held
