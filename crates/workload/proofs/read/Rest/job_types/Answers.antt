use Rattle.std.proofs.Common.{◌∙◌, arith}
use Rattle.workload.specs.Reads.{TypePart}
use Rattle.workload.proofs.Parts.{at_end, handed, several_many, several_next, several_stops}
use Rattle.workload.proofs.read.Rest.job_types.Goals as goal

pub returns-in_err-job_type : goal.returns-in_err-job_type
returns-in_err-job_type c =
    let l = c.args.sizes in
    let P = TypePart l.items l.codes in
    let v = c.loop-t.invariant in
    let r = c.in_err-job_type.ensures in
    (r.0 ∙ v.0, rw (handed _ _ c.from_residual.ensures.1) (several_stops (P c.args.self.now.end) l.types c.loop-t._t _ c.loop-t.types c.loop-t.self.bytes.now _ (omega arith) v.1 (at_end P v.0 r.1)))

pub push-requires : goal.push-requires
push-requires c =
    let l = c.args.sizes in
    (omega arith, omega (arith, several_many (TypePart l.items l.codes c.args.self.now.end) _ _ _ _ c.loop-t.invariant.1))

pub loop-t-preserved : goal.loop-t-preserved
loop-t-preserved c =
    let l = c.args.sizes in
    let P = TypePart l.items l.codes in
    let v = c.loop-t.invariant in
    let r = c.in_ok-job_type.ensures in
    (r.0 ∙ v.0, rw c.push.ensures (several_next (P c.args.self.now.end) c.loop-t._t _ c.loop-t.types c.loop-t.self.bytes.now _ _ v.1 (at_end P v.0 r.1)))
