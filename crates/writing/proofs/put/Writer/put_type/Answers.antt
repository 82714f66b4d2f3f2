use Rattle.std.proofs.Common.{[], ◌∷◌, length}
use Rattle.rules.specs.Rules.{nowhere}
use Rattle.std.specs.List.{flat_map}
use Rattle.std.proofs.lemmas.List.{take_all}
use Rattle.workload.specs.Encoding.{record_bytes}
use Rattle.writing.proofs.Puts.{adds_more, adds_next, room_after, room_next}
use Rattle.writing.proofs.put.Writer.put_type.Goals as goal

pub put-requires-in-loop-state : goal.put-requires-in-loop-state
put-requires-in-loop-state c =
    let states = c.args.states.now in
    let start = c.put.new.self in
    let room = room_after c.args.self.now start (length states ∷ []) (flat_map record_bytes states) c.requires.room c.put.ensures in
    room_next record_bytes states c.loop-state.state-index nowhere c.record.result c.loop-state-test.true c.record.ensures start c.loop-state.self room c.loop-state.invariant

pub loop-state-preserved : goal.loop-state-preserved
loop-state-preserved c =
    let states = c.args.states.now in
    let start = c.put.new.self in
    let room = room_after c.args.self.now start (length states ∷ []) (flat_map record_bytes states) c.requires.room c.put.ensures in
    adds_next record_bytes states c.loop-state.state-index nowhere c.record.result c.loop-state-test.true c.record.ensures start c.loop-state.self room c.loop-state.invariant
    c.put-in-loop-state.new.self c.put-in-loop-state.ensures

pub returns : goal.returns
returns c =
    let states = c.args.states.now in
    adds_more c.args.self.now c.put.new.self (length states ∷ []) (flat_map record_bytes states) c.requires.room c.put.ensures c.loop-state.self (rw (take_all c.loop-state.state-index states c.loop-state-test.false) at c.loop-state.invariant)
