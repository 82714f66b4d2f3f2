-- Where an item of a joined list stands.
use Rattle.std.specs.Prelude.{◌≡◌, ℕ, ◌-◌, ◌<◌, ◌≤◌, Option, Some, None}
use Rattle.stores.specs.declared.joined.Part.{Part}
use Rattle.stores.specs.declared.joined.Part.TheVariants.{First, Second}

abbrev pub Stands : ℕ → ℕ → Option Part → Type 0
Stands i front (Some First) = (i < 4096) × (i < front)
Stands i front (Some (Second j)) = (i < 4096) × (front ≤ i) × (j ≡ i - front)
Stands i front None = 4096 ≤ i
