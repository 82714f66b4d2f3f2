use Rattle.std.proofs.Common.{refl}
use Rattle.workload.proofs.Parts.{handed}
use Rattle.workload.proofs.file.read.Goals as goal

pub returns-in_err-loaded : goal.returns-in_err-loaded
returns-in_err-loaded c = rw (handed _ _ c.from_residual.ensures.1) (refl, c.in_err-loaded.ensures)
