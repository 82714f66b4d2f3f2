-- What holds of a job's record after every list of calls. The promise does not speak of it:
-- it is what the proofs, and crates that keep such records, know of a record.
use Rattle.std.specs.Prelude.{◌≡◌, ◌⊎◌, Bool, true, false, ℕ, ◌<◌}
use Rattle.model.specs.Workload.{Workload, Terminal, Unreachable, Named, LocalRoot, Local, LocalChild, LocalLeaf}
use Rattle.model.specs.Table.{Job}

-- an item that may go or went: it is unneeded, and so is each way down from it that was not taken
pub record Passed (W : Workload) (t : ℕ) (locked done : ℕ → Bool) (d : ℕ) : Type 0 where
  pub unneeded : (done d ≡ true) ⊎ ¬ Named W t d
  pub below : (c : ℕ) → LocalChild W t d c → (locked c ≡ true) ⊎ (LocalLeaf W t c × (done c ≡ true))

-- it has worked in a terminal state, and only releases what it holds
abbrev pub Closing : Workload → Job → Type 0
Closing W J = (J.has_worked ≡ true) × Terminal W J.type J.state

-- The record of a job whose type has the local root r.
pub record Good (W : Workload) (r : ℕ) (J : Job) : Type 0 where
  pub type_ok : J.type < W.types
  pub state_ok : J.state < W.states J.type
  pub is_root : LocalRoot W J.type r
  -- what is done is unreachable
  pub unreachable : (d : ℕ) → J.done d ≡ true → Unreachable W J.type J.state d
  -- what is held was locked, and what was locked lies in the local lock tree
  pub held_locked : (d : ℕ) → J.held d ≡ true → J.ever_locked d ≡ true
  pub inside : (d : ℕ) → J.ever_locked d ≡ true → Local W J.type d
  -- an item that was locked is the local root, or its parent was locked too
  pub climbs : (d : ℕ) → J.ever_locked d ≡ true → (d ≡ r) ⊎ ((J.ever_locked (W.up d) ≡ true) × ¬ (d ≡ W.top))
  -- before the job closes, it has released only what it does not need
  pub passed
      : ¬ Closing W J → (d : ℕ) → J.ever_locked d ≡ true → J.held d ≡ false
      → Passed W J.type J.ever_locked J.done d
  -- a finished job holds nothing
  pub at_end : J.has_finished ≡ true → Closing W J × ((d : ℕ) → J.held d ≡ false)
