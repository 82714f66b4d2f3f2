use Rattle.std.proofs.Common.{◌≡◌, Ok}
use Rattle.workload.specs.Reads.{Several, StateRecord}
use Rattle.workload.proofs.read.Rest.records.Given as goal

abbrev pub invariant-loop-s : goal.invariant-loop-s
invariant-loop-s l =
    (l.self.end ≡ l.initial.self.end)
    × Several (StateRecord l.limits.items l.limits.codes l.limits.states l.initial.self.end) l._s l.initial.self.bytes.now (Ok (l.states, l.self.bytes.now))
