-- Tree locking: jobs lock the items of a lock tree from the top down, so that one order of the jobs agrees with every item.
-- Items and jobs are numbers, and so are times. The jobs of a run are the numbers below N.
use Rattle.std.specs.Prelude.{◌≡◌, List, ◌⊎◌, Bool, true, ℕ, ◌<◌}
use Rattle.locking.specs.Lists.{Mem, Before, Distinct}

-- A run: the lock tree, and which job locked what, and when. A lock counts as locked after its release too.
pub record Run : Type 0 where
  -- the parent of an item
  pub up : ℕ → ℕ
  -- how deep an item stands in the tree
  pub depth : ℕ → ℕ
  -- the first item that a job locks, the root of its local lock tree
  pub root : ℕ → ℕ
  -- has j d: the job j has locked the item d
  pub has : ℕ → ℕ → Bool
  -- at j d: the time at which j locked d
  pub at : ℕ → ℕ → ℕ

abbrev pub Has : Run → ℕ → ℕ → Type 0
Has R j d = R.has j d ≡ true

-- The jobs below N kept the rules of tree locking.
pub record TreeLocked (N : ℕ) (R : Run) : Type 0 where
  -- two jobs never lock one item at the same time
  pub apart : (j k d : ℕ) → j < N → k < N → Has R j d → Has R k d → R.at j d ≡ R.at k d → j ≡ k
  -- an item that a job has locked is its root, or the job has locked the item's parent, which is less deep
  pub climbs
      : (j d : ℕ) → j < N → Has R j d → (d ≡ R.root j) ⊎ (Has R j (R.up d) × (R.depth (R.up d) < R.depth d))
  -- two jobs that came down from an item's parent lock the item in the order in which they locked the parent
  pub follows
      : (j k d : ℕ) → j < N → k < N → Has R j d → Has R k d → Has R j (R.up d) → Has R k (R.up d) → ¬ (d ≡ R.root j)
      → ¬ (d ≡ R.root k) → R.at j (R.up d) < R.at k (R.up d) → R.at j d < R.at k d

-- A serial order: a list of the jobs that agrees with every item's order of locks.
pub record JobOrder (N : ℕ) (R : Run) (ord : List ℕ) : Type 0 where
  -- it has each job once, and nothing else
  pub distinct : Distinct ord
  pub whole : (j : ℕ) → j < N → Mem j ord
  pub only : (j : ℕ) → Mem j ord → j < N
  -- who locked an item first stands first
  pub agrees : (d j k : ℕ) → j < N → k < N → Has R j d → Has R k d → R.at j d < R.at k d → Before j k ord

-- The same by numbers: each job has a position, and the positions agree with every item's order of locks.
pub record JobPositions (N : ℕ) (R : Run) (pos : ℕ → ℕ) : Type 0 where
  -- no two jobs have the same position
  pub apart : (j k : ℕ) → j < N → k < N → pos j ≡ pos k → j ≡ k
  pub below : (j : ℕ) → j < N → pos j < N
  pub agrees : (d j k : ℕ) → j < N → k < N → Has R j d → Has R k d → R.at j d < R.at k d → pos j < pos k

-- Jobs that lock by the tree have a serial order.
abbrev pub TreeOrder : Type 0
TreeOrder = (N : ℕ) (R : Run) → TreeLocked N R → (ord : List ℕ) × JobOrder N R ord

-- The same, by the position of each job.
abbrev pub TreePositions : Type 0
TreePositions = (N : ℕ) (R : Run) → TreeLocked N R → (pos : ℕ → ℕ) × JobPositions N R pos
