use Rattle.writing.proofs.Puts.{record_list}
use Rattle.writing.proofs.put.record.Goals as goal

pub returns : goal.returns
returns c = record_list c.args.state c.to_be_bytes.result c.requires c.to_be_bytes.ensures
