use Rattle.std.proofs.Common.{◌<◌, length, vec_items, arith}
use Rattle.rules.proofs.Settled.{above_settled}
use Rattle.workload.specs.Types.{all_states}
use Rattle.workload.proofs.Uses.{few_items, well_formed}
use Rattle.workload.proofs.definition.Workload.above.Goals as goal

pub returns : goal.returns
returns c =
    let w = c.args.self.now in
    let i : c.args.d < length (vec_items w.parents) = omega (arith, w.parents.ok.0) in
    (i, above_settled (vec_items w.parents) w.code_count (all_states (vec_items w.types)) (well_formed w) (few_items w) w.above w.ways_up c.args.d i)
