use Rattle.std.proofs.Common.{rules}
use Rattle.stores.proofs.row.RowStoreShowingStore.shown.Goals as goal

pub returns : goal.returns
returns g c = rw (← c.counted_item.ensures) (search rules)
