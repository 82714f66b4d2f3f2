-- How the calls fail.
use Rattle.std.proofs.Common.{ℕ, List, inl, inr}
use Rattle.exports.specs.Told.{Fails}
use Rattle.workload.specs.Files.{NotRead}
use Rattle.workload.specs.declared.fault.Fault.{Fault}

-- where reading the file fails, nothing is changed yet
pub reading : {bs : List ℕ} {Same : Type 0} (f : Fault) → Same → NotRead bs f → Fails bs Same f
reading f same (inl refused) = inl (refused, same)
reading f same (inr memory) = inr memory.0

-- what else is the same
pub besides : {bs : List ℕ} {Same More : Type 0} (f : Fault) → (Same → More) → Fails bs Same f → Fails bs More f
besides f more (inl refused) = inl (refused.0, more refused.1)
besides f more (inr memory) = inr memory
