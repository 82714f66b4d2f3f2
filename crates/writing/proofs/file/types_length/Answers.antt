use Rattle.std.proofs.Common.{[], vec_items, ap, arith}
use Rattle.workload.specs.Encoding.{type_bytes}
use Rattle.workload.specs.Types.{all_states}
use Rattle.writing.proofs.Kept.{states_of}
use Rattle.writing.proofs.Puts.{length_next}
use Rattle.writing.proofs.file.types_length.Goals as goal

pub type_length-length-requires : goal.type_length-length-requires
type_length-length-requires c =
    let s = states_of c.args.workload.now c.job_types-ty-items.result.now c.loop-ty.ty-index c.ty-item.result c.as_slice.result.now c.job_types-ty-items.ensures c.loop-ty-test.true c.ty-item.is c.as_slice.ensures.value in
    record { few = s.few; packed = s.packed }

pub loop-ty-preserved : goal.loop-ty-preserved
loop-ty-preserved c =
    let w = c.args.workload.now in
    let xs = c.as_slice.result.now in
    let s = states_of w c.job_types-ty-items.result.now c.loop-ty.ty-index c.ty-item.result xs c.job_types-ty-items.ensures c.loop-ty-test.true c.ty-item.is c.as_slice.ensures.value in
    let n = length_next type_bytes (all_states (vec_items w.types)) c.loop-ty.ty-index [] (type_bytes xs) s.within (ap type_bytes s.are) in
    (omega (arith, c.loop-ty.invariant.0, c.type_length-length.ensures.value), omega (arith, c.loop-ty.invariant.1, c.type_length-length.ensures.high))
