use Rattle.std.proofs.Common.{ℕ, List, ◌++◌, subst}
use Rattle.writing.specs.Puts.{Adds}
use Rattle.writing.proofs.Puts.{adds_more}
use Rattle.writing.proofs.put.Writer.put_note.Goals as goal

pub returns : goal.returns
returns c =
    let note = c.args.note.now in
    let bytes = c.to_be_bytes.result in
    subst (λ (b : List ℕ). Adds c.args.self.now (b ++ note) c.put-2.new.self) c.to_be_bytes.ensures
    (adds_more c.args.self.now c.put.new.self bytes note (rw c.to_be_bytes.ensures c.requires.room) c.put.ensures c.put-2.new.self c.put-2.ensures)
