use Rattle.std.proofs.Common.{◌≡◌, take}
use Rattle.std.proofs.lemmas.List.{take_min}
use Rattle.stores.specs.Stores.{counted}
use Rattle.stores.proofs.Acts.{lent}
use Rattle.stores.proofs.row.counted_item.Goals as goal

pub returns : goal.returns
returns g c =
    let row = c.args.row.now in
    let front : take c.min.result row ≡ counted row = rw c.min.ensures (take_min 4096 row) in
    rw front at (lent _ _ _ c.get.ensures.lookup)
