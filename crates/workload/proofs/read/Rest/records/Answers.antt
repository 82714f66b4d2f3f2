use Rattle.std.proofs.Common.{◌∙◌, arith}
use Rattle.workload.specs.Reads.{StateRecord}
use Rattle.workload.proofs.Parts.{at_end, handed, several_many, several_next, several_stops}
use Rattle.workload.proofs.read.Rest.records.Goals as goal

pub returns-in_err-record : goal.returns-in_err-record
returns-in_err-record c =
    let l = c.args.limits in
    let P = StateRecord l.items l.codes l.states in
    let v = c.loop-s.invariant in
    let r = c.in_err-record.ensures in
    (r.0 ∙ v.0, rw (handed _ _ c.from_residual.ensures.1) (several_stops (P c.args.self.now.end) l.states c.loop-s._s _ c.loop-s.states c.loop-s.self.bytes.now _ (omega arith) v.1 (at_end P v.0 r.1)))

pub push-requires : goal.push-requires
push-requires c =
    let l = c.args.limits in
    (omega arith, omega (arith, several_many (StateRecord l.items l.codes l.states c.args.self.now.end) _ _ _ _ c.loop-s.invariant.1))

pub loop-s-preserved : goal.loop-s-preserved
loop-s-preserved c =
    let l = c.args.limits in
    let P = StateRecord l.items l.codes l.states in
    let v = c.loop-s.invariant in
    let r = c.in_ok-record.ensures in
    (r.0 ∙ v.0, rw c.push.ensures (several_next (P c.args.self.now.end) c.loop-s._s _ c.loop-s.states c.loop-s.self.bytes.now _ _ v.1 (at_end P v.0 r.1)))
