-- A store's work in the words of the model.
use Rattle.std.specs.Prelude.{◌≡◌, ℕ, List, ℤ}
use Rattle.model.specs.Workload.{Workload}
use Rattle.model.specs.Table.{Kind, WorksIfThere}

-- the work of every state, of whatever workload, that names this item, code and operand
abbrev pub WorksAt : {V : Type 0} → Kind V → ℕ → ℕ → ℤ → List V → ℤ → List V → ℤ → Type 0
WorksAt K item code operand old p new q =
    (W : Workload) (t s : ℕ)
    → W.item t s ≡ item → W.code t s ≡ code → W.operand t s ≡ operand
    → WorksIfThere W K t s old p new q
