use Rattle.writing.proofs.Round.{again}
use Rattle.writing.proofs.trips.read_again.Goals as goal

pub returns : goal.returns
returns c = λ w text e l. again w text c.args.buffer.now c.args.end c.args.copy.now c.read.new.workload c.read.result c.requires e l c.read.ensures
