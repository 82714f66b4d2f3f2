use Rattle.std.proofs.lemmas.Option.{MatchOption-at_some}
use Rattle.writing.proofs.Round.{copied}
use Rattle.writing.proofs.trips.write_again.Goals as goal

pub returns : goal.returns
returns c =
    let f = c.requires in
    let text = c.unwrap-text.result in
    let n = MatchOption-at_some _ _ text c.unwrap-text.ensures c.note.ensures in
    record {
      read = (f.0, f.1, f.2);
      copied = copied c.args.file.now c.args.workload.now c.args.span text.now c.args.buffer.now c.write.new.buffer c.write.result f n.1 c.write.ensures;
    }
