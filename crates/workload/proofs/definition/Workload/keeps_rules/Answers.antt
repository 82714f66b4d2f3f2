use Rattle.std.proofs.Common.{refl}
use Rattle.workload.proofs.Uses.{well_formed}
use Rattle.workload.proofs.definition.Workload.keeps_rules.Goals as goal

pub returns : goal.returns
returns c = (refl, well_formed c.args.self.now)
