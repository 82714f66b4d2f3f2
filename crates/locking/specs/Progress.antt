-- Jobs that lock by the tree never wait for one another in a circle.
use Rattle.std.specs.Prelude.{◌≡◌, ◌⊎◌, Bool, true, false, ℕ, ◌≤◌, ◌<◌}
use Rattle.locking.specs.Tree.{Run, Has, TreeLocked}

-- A moment of a run.
pub record Moment : Type 0 where
  -- what was locked so far, released or not
  pub run : Run
  -- a time later than all locks so far
  pub now : ℕ
  -- holds j d: the job j has locked the item d and has not released it
  pub holds : ℕ → ℕ → Bool
  -- the job has not yet ended
  pub busy : ℕ → Bool
  -- the job waits, for the item `wants`
  pub waits : ℕ → Bool
  pub wants : ℕ → ℕ

-- What the rules of tree locking say of a moment.
pub record Sound (N : ℕ) (M : Moment) : Type 0 where
  pub locked : TreeLocked N M.run
  pub past : (j d : ℕ) → j < N → Has M.run j d → M.run.at j d < M.now
  -- what a job holds, it has locked, and it has not ended
  pub held : (j d : ℕ) → j < N → M.holds j d ≡ true → Has M.run j d
  pub open_still : (j d : ℕ) → j < N → M.holds j d ≡ true → M.busy j ≡ true
  -- who holds an item locked it last: whoever locked it before has released it, and nobody locked it since
  pub latest : (j k d : ℕ) → j < N → k < N → M.holds j d ≡ true → Has M.run k d → M.run.at k d ≤ M.run.at j d
  -- a job waits only for what it has not yet locked: its root, or an item right below one that it holds
  pub fresh : (k : ℕ) → k < N → M.waits k ≡ true → M.run.has k (M.wants k) ≡ false
  pub asked
      : (k : ℕ) → k < N → M.waits k ≡ true
      → (M.wants k ≡ M.run.root k)
      ⊎ ((M.holds k (M.run.up (M.wants k)) ≡ true) × (M.run.depth (M.run.up (M.wants k)) < M.run.depth (M.wants k)))

-- A job that can go on: it has not ended, and it does not wait, or nobody holds what it waits for.
pub record CanGoOn (N : ℕ) (M : Moment) (k : ℕ) : Type 0 where
  pub job : k < N
  pub busy : M.busy k ≡ true
  pub free : (M.waits k ≡ false) ⊎ ((h : ℕ) → h < N → M.holds h (M.wants k) ≡ false)

-- While a job has not ended, some job can go on.
abbrev pub Progress : Type 0
Progress = (N : ℕ) (M : Moment) → Sound N M → (j : ℕ) → j < N → M.busy j ≡ true → (k : ℕ) × CanGoOn N M k

-- The job k waits for what the job h holds, which has not ended.
pub record BlockedBy (N : ℕ) (M : Moment) (k h : ℕ) : Type 0 where
  pub waiting : M.waits k ≡ true
  pub other : h < N
  pub busy : M.busy h ≡ true
  pub holding : M.holds h (M.wants k) ≡ true

-- There is no deadlock: it cannot be that a job has not ended and each such job waits for another.
abbrev pub NoDeadlock : Type 0
NoDeadlock =
    (N : ℕ) (M : Moment) → Sound N M → (j : ℕ) → j < N → M.busy j ≡ true
    → ¬ ((k : ℕ) → k < N → M.busy k ≡ true → (h : ℕ) × BlockedBy N M k h)
