use Rattle.std.proofs.Common.{length, Err}
use Rattle.workload.proofs.Cuts.{cut_short, goes_past}
use Rattle.workload.proofs.Files.{accepted_once, accepted_refused}
use Rattle.workload.proofs.Once.{file_only}
use Rattle.workload.proofs.Parts.{same_err}
use Rattle.workload.proofs.file.file_laws_stand.Goals as goal

pub returns : goal.returns
returns c =
    record {
      one_contents = accepted_once;
      one_fault = λ bs f g p q. same_err f g (file_only (length bs) bs (Err f) (Err g) p q);
      not_both = accepted_refused;
      cut_short = cut_short;
      goes_past = goes_past;
    }
