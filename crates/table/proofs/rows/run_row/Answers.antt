use Rattle.std.proofs.Common.{◌≡◌, ◌≤◌, length, ap, arith, length-take, rules}
use Rattle.stores.specs.Stores.{counted}
use Rattle.table.proofs.rows.run_row.Goals as goal

pub run_in-store-requires-clause-shown : goal.run_in-store-requires-clause-shown
run_in-store-requires-clause-shown g c =
    let same : length (counted c.new-store.result.row.now) ≡ length (counted c.args.row.now) = ap (λ vs. length (counted vs)) c.new-store.ensures.values in
    let short : length (counted c.args.row.now) ≤ c.min.result = simp length-take (search rules) in
    let room = c.in_ok-room.ensures in
    (room.1.0, omega (arith, room.1.1))
