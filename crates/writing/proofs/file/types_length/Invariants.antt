use Rattle.std.proofs.Common.{◌≡◌, ◌*◌, ◌≤◌, length, take, vec_items}
use Rattle.std.specs.List.{flat_map}
use Rattle.workload.specs.Encoding.{type_bytes}
use Rattle.workload.specs.Types.{all_states}
use Rattle.writing.proofs.file.types_length.Given as goal

abbrev pub invariant-loop-ty : goal.invariant-loop-ty
invariant-loop-ty l = (l.length ≡ length (flat_map type_bytes (take l.ty-index (all_states (vec_items l.fn.workload.types))))) × (l.length ≤ l.ty-index * 353)
