use Rattle.std.proofs.Common.{[], vec_items, ap}
use Rattle.workload.specs.Encoding.{type_bytes}
use Rattle.workload.specs.Types.{all_states}
use Rattle.writing.proofs.Kept.{states_of}
use Rattle.writing.proofs.Puts.{adds_next, room_next}
use Rattle.writing.proofs.put.Writer.put_types.Goals as goal

pub put_type-requires : goal.put_type-requires
put_type-requires c =
    let w = c.args.workload.now in
    let xs = c.as_slice.result.now in
    let s = states_of w c.job_types-ty-items.result.now c.loop-ty.ty-index c.ty-item.result xs c.job_types-ty-items.ensures c.loop-ty-test.true c.ty-item.is c.as_slice.ensures.value in
    record {
      few = s.few;
      packed = s.packed;
      room = room_next type_bytes (all_states (vec_items w.types)) c.loop-ty.ty-index [] (type_bytes xs) s.within (ap type_bytes s.are) c.args.self.now c.loop-ty.self c.requires c.loop-ty.invariant;
    }

pub loop-ty-preserved : goal.loop-ty-preserved
loop-ty-preserved c =
    let w = c.args.workload.now in
    let xs = c.as_slice.result.now in
    let s = states_of w c.job_types-ty-items.result.now c.loop-ty.ty-index c.ty-item.result xs c.job_types-ty-items.ensures c.loop-ty-test.true c.ty-item.is c.as_slice.ensures.value in
    adds_next type_bytes (all_states (vec_items w.types)) c.loop-ty.ty-index [] (type_bytes xs) s.within (ap type_bytes s.are) c.args.self.now c.loop-ty.self c.requires c.loop-ty.invariant
    c.put_type.new.self c.put_type.ensures
