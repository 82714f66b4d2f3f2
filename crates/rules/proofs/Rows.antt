-- Loops over a row of sets, and ways along a relation.
use Rattle.std.proofs.Common.{◌≡◌, ℕ, ◌<◌, ◌≤◌, List, length, get_or, ap, ◌∙◌, inl, inr}
use Rattle.std.proofs.lemmas.List.{get_or_past}
use Rattle.std.proofs.lemmas.Bool.{cases_lt, both_ways}
use Rattle.itemset.proofs.Laws.{has_none}
use Rattle.itemset.specs.Members.{holds, nothing}
use Rattle.rules.specs.Reach.{Converse, Joined, Reaches, here, step}
use Rattle.itemset.specs.declared.ItemSet.{ItemSet}

-- a loop has come to i: what stands before i meets P, and the rest is as it was
pub record Come (P : ℕ → ItemSet → Type 0) (old new : List ItemSet) (i : ℕ) : Type 0 where
  pub long : length new ≡ length old
  pub front : (s : ℕ) → s < i → P s (get_or new s nothing)
  pub back : (s : ℕ) → i ≤ s → get_or new s nothing ≡ get_or old s nothing

-- only a row that is there holds anything
pub joined_within : (rows : List ItemSet) (s t : ℕ) → Joined rows s t → s < length rows
joined_within rows s t h = elim (cases_lt s (length rows)) [
  | inl l ↦ l
  | inr l ↦ absurd (both_ways (holds (get_or rows s nothing) t) (ap (λ (x : ItemSet). holds x t) (get_or_past rows s nothing l) ∙ has_none t) h)
]

pub reaches_on : {E : ℕ → ℕ → Type 0} {s m t : ℕ} → Reaches E s m → Reaches E m t → Reaches E s t
reaches_on here q = q
reaches_on (step e p) q = step e (reaches_on p q)

-- a way the other way round
pub turned : {E : ℕ → ℕ → Type 0} {s t : ℕ} → Reaches E s t → Reaches (Converse E) t s
turned here = here
turned (step e p) = reaches_on (turned p) (step e here)
