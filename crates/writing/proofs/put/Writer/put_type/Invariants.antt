use Rattle.std.proofs.Common.{take}
use Rattle.std.specs.List.{flat_map}
use Rattle.workload.specs.Encoding.{record_bytes}
use Rattle.writing.specs.Puts.{Adds}
use Rattle.writing.proofs.put.Writer.put_type.Given as goal

abbrev pub invariant-loop-state : goal.invariant-loop-state
invariant-loop-state l = Adds l.initial.self (flat_map record_bytes (take l.state-index l.states)) l.self
