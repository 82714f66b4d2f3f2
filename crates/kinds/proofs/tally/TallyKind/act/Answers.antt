use Rattle.std.proofs.Common.{rules}
use Rattle.kinds.proofs.tally.TallyKind.act.Goals as goal

pub returns-in-AddRegister : goal.returns-in-AddRegister
returns-in-AddRegister c = let code = rw c.in-AddRegister.is at c.in-Ok.ensures in rw (← code) (search rules)

pub returns-in-TakeOff : goal.returns-in-TakeOff
returns-in-TakeOff c = let code = rw c.in-TakeOff.is at c.in-Ok.ensures in rw (← code) (search rules)
