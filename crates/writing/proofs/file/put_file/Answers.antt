use Rattle.std.proofs.Common.{refl, rules, arith}
use Rattle.workload.specs.Encoding.{note_bytes}
use Rattle.writing.specs.Puts.{types_bytes}
use Rattle.writing.proofs.Puts.{adds_four, adds_stand}
use Rattle.writing.proofs.file.put_file.Goals as goal

pub returns : goal.returns
returns c =
    let w = c.args.workload.now in
    let note = c.args.note.now in
    let parents = c.parent_bytes.result.now in
    let a = adds_four c.header.result parents (types_bytes w) (note_bytes note) (rw (c.header.ensures, c.parent_bytes.ensures) (omega (arith, c.requires.room))) c.put.ensures c.put-2.ensures c.put_types.ensures c.put_note.ensures in
    adds_stand refl c.requires.room (rw c.header.ensures at (rw c.parent_bytes.ensures at a)) (search rules)
