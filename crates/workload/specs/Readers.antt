-- What a reader of a file promises.
use Rattle.std.specs.Prelude.{◌≡◌, ℕ, Ok, Err, Result, MatchResult}
use Rattle.workload.specs.declared.fault.Fault.{Fault}
use Rattle.workload.specs.declared.read.Rest.{Rest}
use Rattle.workload.specs.Reads.{Part}

-- what a reader returned, its value as `value` takes it, is the part's answer, and the reader moved on to the bytes that follow
abbrev pub Gives : {X R : Type 0} → (ℕ → Part X) → (R → X) → Rest → Rest → Result R Fault → Type 0
Gives P value before after r =
    (after.end ≡ before.end)
    × MatchResult r (λ x. P before.end before.bytes.now (Ok (value x, after.bytes.now))) (λ f. P before.end before.bytes.now (Err f))
