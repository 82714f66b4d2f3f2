-- Relations on numbers that a row of sets holds, and what can be reached along a relation.
use Rattle.std.specs.Prelude.{◌≡◌, ℕ, ◌-◌, ◌<◌, ◌⊎◌, Bool, true, false, List, slice_index_or}
use Rattle.itemset.specs.Members.{holds, nothing}
use Rattle.itemset.specs.declared.ItemSet.{ItemSet}
use Rattle.rules.specs.declared.closure.Order.{Order}
use Rattle.rules.specs.declared.closure.Way.{Way}
use Rattle.rules.specs.declared.closure.Way.TheVariants.{On, Back}
use Rattle.rules.specs.declared.closure.Order.TheVariants.{Up, Down}

-- row s holds t; a row past the end holds nothing
abbrev pub Joined : List ItemSet → ℕ → ℕ → Type 0
Joined rows s t = holds (slice_index_or rows s nothing) t ≡ true

-- some way along the relation leads from s to t; the way of no step leads from s to s
pub data Reaches (E : ℕ → ℕ → Type 0) : ℕ → ℕ → Type 0 where
  here : {s : ℕ} → Reaches E s s
  step : {s m t : ℕ} → E s m → Reaches E m t → Reaches E s t

-- some number of the set is joined to t
abbrev pub HeldBy : List ItemSet → ItemSet → ℕ → Type 0
HeldBy rows set t = (m : ℕ) × (holds set m ≡ true) × Joined rows m t

-- the relation the other way round
abbrev pub Converse : (ℕ → ℕ → Type 0) → ℕ → ℕ → Type 0
Converse E s m = E m s

-- some number that s reaches is joined to t
abbrev pub Ahead : (ℕ → ℕ → Type 0) → List ItemSet → ℕ → ℕ → Type 0
Ahead E rows s t = (m : ℕ) × Reaches E s m × Joined rows m t

-- each row that held k took over what row k held, and no row anything else
pub record Through (old new : List ItemSet) (k : ℕ) : Type 0 where
  pub only : (s t : ℕ) → Joined new s t → Joined old s t ⊎ (Joined old s k × Joined old k t)
  pub kept : (s t : ℕ) → Joined old s t → Joined new s t
  pub made : (s t : ℕ) → Joined old s k → Joined old k t → Joined new s t

-- the new rows join each number to all that ways along the old ones lead to, but for the way of no step
pub record Closed (old new : List ItemSet) : Type 0 where
  pub sound : (s t : ℕ) → Joined new s t → Reaches (Joined old) s t
  pub complete : (s t : ℕ) → Reaches (Joined old) s t → (t ≡ s) ⊎ Joined new s t
  -- each way ends with a step
  pub ends : (s t : ℕ) → Joined new s t → (m : ℕ) × Joined old m t

-- each row still holds what it held
abbrev pub Keeps : List ItemSet → List ItemSet → Type 0
Keeps old new = (s t : ℕ) → Joined old s t → Joined new s t

-- some row holds a number that it did not hold
abbrev pub Gains : List ItemSet → List ItemSet → Type 0
Gains old new = (s t : ℕ) × (t < 64) × Joined new s t × (Joined old s t → ⊥)

-- row s took over what the set holds, and no other row changed; `news` is whether it lacked any of that
pub record TakesOver (old new : List ItemSet) (s : ℕ) (set : ItemSet) (news : Bool) : Type 0 where
  pub kept : Keeps old new
  pub only : (r t : ℕ) → Joined new r t → Joined old r t ⊎ ((r ≡ s) × (holds set t ≡ true))
  pub took : (t : ℕ) → holds set t ≡ true → Joined new s t
  pub quiet : news ≡ false → new ≡ old
  pub loud : news ≡ true → Gains old new

-- the rows of the numbers took over what the set holds, and no other row changed; `news` is whether any lacked some of that
pub record Gives (old new : List ItemSet) (numbers set : ItemSet) (news : Bool) : Type 0 where
  pub kept : Keeps old new
  pub only : (r t : ℕ) → Joined new r t → Joined old r t ⊎ ((holds numbers r ≡ true) × (holds set t ≡ true))
  pub took : (r t : ℕ) → holds numbers r ≡ true → holds set t ≡ true → Joined new r t
  pub quiet : news ≡ false → new ≡ old
  pub loud : news ≡ true → Gains old new

-- the rows took over what is ahead of them along the relation, if not all of it; `more` is whether they may lack some of it
pub record Pulls (E : ℕ → ℕ → Type 0) (old new : List ItemSet) (more : Bool) : Type 0 where
  pub kept : Keeps old new
  pub only : (s t : ℕ) → Joined new s t → Ahead E old s t
  pub quiet : more ≡ false → (s m t : ℕ) → E s m → Joined new m t → Joined new s t
  pub loud : more ≡ true → Gains old new

-- the number whose turn it is after k others, of n
abbrev pub turn : Order → ℕ → ℕ → ℕ
turn Up n k = k
turn Down n k = n - 1 - k

-- the relation that rows hold, or its converse
abbrev pub along : Way → List ItemSet → ℕ → ℕ → Type 0
along On rows = Joined rows
along Back rows = Converse (Joined rows)

-- some number of the set reaches t
abbrev pub ReachedFrom : (ℕ → ℕ → Type 0) → ItemSet → ℕ → Type 0
ReachedFrom E from t = (s : ℕ) × (holds from s ≡ true) × Reaches E s t

-- of the two numbers that the relation joins, the one in whose row the other stands
abbrev pub row_of : Way → ℕ → ℕ → ℕ
row_of On m t = m
row_of Back m t = t

-- the set took in numbers that some of its own are joined to, and all where row s tells so
pub record TakesIn (rows : List ItemSet) (s : ℕ) (way : Way) (old new : ItemSet) : Type 0 where
  pub kept : (t : ℕ) → holds old t ≡ true → holds new t ≡ true
  pub only : (t : ℕ) → holds new t ≡ true → (holds old t ≡ true) ⊎ ((m : ℕ) × (holds old m ≡ true) × along way rows m t)
  pub took : (m t : ℕ) → row_of way m t ≡ s → along way rows m t → holds old m ≡ true → holds new t ≡ true

-- the set took in numbers that its own reach; `more` is whether it may still lack some
pub record Grows (E : ℕ → ℕ → Type 0) (old new : ItemSet) (more : Bool) : Type 0 where
  pub kept : (t : ℕ) → holds old t ≡ true → holds new t ≡ true
  pub only : (t : ℕ) → holds new t ≡ true → ReachedFrom E old t
  pub quiet : more ≡ false → (m t : ℕ) → E m t → holds new m ≡ true → holds new t ≡ true
  pub loud : more ≡ true → (t : ℕ) × (t < 64) × (holds new t ≡ true) × (holds old t ≡ false)
