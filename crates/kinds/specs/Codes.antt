-- Which operation a code stands for.
use Rattle.std.specs.Prelude.{◌≡◌, ℕ, ◌≤◌, Result, MatchResult}
use Rattle.kinds.specs.declared.kind.NoOperation.{NoOperation}

-- the operation with this code, or none where the code is not below the number of codes
abbrev pub Decodes : {Operation : Type 0} → (Operation → ℕ) → ℕ → ℕ → Result Operation NoOperation → Type 0
Decodes code_of codes code r = MatchResult r (λ operation. code_of operation ≡ code) (λ none. codes ≤ code)
