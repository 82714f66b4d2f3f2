use Rattle.std.proofs.Common.{arith, length-take}
use Rattle.stores.proofs.row.RowStoreShowingStore.len.Goals as goal

pub returns : goal.returns
returns g c = simp length-take (omega arith)
