use Rattle.std.proofs.Common.{◌≡◌, vec_items}
use Rattle.exports.specs.Runs.{LeadsRound}
use Rattle.exports.proofs.rounds.make_rounds.Given as goal

abbrev pub invariant-loop-round : goal.invariant-loop-round
invariant-loop-round g l =
    record {
      same : l.table.shift.workload ≡ l.fn.table.shift.workload;
      leads : LeadsRound g.K.Kind g.S.ShowingStore l.fn.table l.calls l._round (vec_items l.answers) l.table;
    }
