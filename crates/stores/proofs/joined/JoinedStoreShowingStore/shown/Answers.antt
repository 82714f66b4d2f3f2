use Rattle.std.proofs.Common.{rules}
use Rattle.stores.proofs.Seam.{in_first, in_second, in_neither}
use Rattle.stores.proofs.joined.JoinedStoreShowingStore.shown.Goals as goal

pub returns-in_err-part_of : goal.returns-in_err-part_of
returns-in_err-part_of g c = rw (in_neither _ _ _ _ c.len.ensures c.in_err-part_of.ensures) (search rules)

pub returns-in-First : goal.returns-in-First
returns-in-First g c = rw (in_first _ _ _ _ c.len.ensures (rw c.in-First.is at c.in_ok-part_of.ensures)) c.shown.ensures

pub returns-in-Second : goal.returns-in-Second
returns-in-Second g c =
    rw (in_second _ _ _ _ c.len.ensures _ (rw c.in-Second.is at c.in_ok-part_of.ensures)) c.shown-in-Second.ensures
