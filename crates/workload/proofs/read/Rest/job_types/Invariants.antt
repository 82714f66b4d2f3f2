use Rattle.std.proofs.Common.{◌≡◌, Ok}
use Rattle.workload.specs.Reads.{Several, TypePart}
use Rattle.workload.proofs.read.Rest.job_types.Given as goal

abbrev pub invariant-loop-t : goal.invariant-loop-t
invariant-loop-t l =
    (l.self.end ≡ l.initial.self.end)
    × Several (TypePart l.sizes.items l.sizes.codes l.initial.self.end) l._t l.initial.self.bytes.now (Ok (l.types, l.self.bytes.now))
