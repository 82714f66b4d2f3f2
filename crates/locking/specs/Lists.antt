-- Membership and order in lists.
use Rattle.std.specs.Prelude.{◌≡◌, List, [], ◌∷◌, ◌⊎◌}

module _ {A : Type 0} where
  -- x stands in the list
  abbrev pub Mem : A → List A → Type 0
  Mem x [] = ⊥
  Mem x (y ∷ ys) = (x ≡ y) ⊎ Mem x ys

  -- some position of the list has x, and a later position has y
  abbrev pub Before : A → A → List A → Type 0
  Before x y [] = ⊥
  Before x y (z ∷ zs) = ((x ≡ z) × Mem y zs) ⊎ Before x y zs

  -- nothing stands twice in the list
  abbrev pub Distinct : List A → Type 0
  Distinct [] = Unit {0}
  Distinct (x ∷ xs) = (¬ Mem x xs) × Distinct xs
