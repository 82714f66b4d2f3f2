-- A run of tree locking is serializable: its log is alike to a serial log.
use Rattle.std.specs.Prelude.{List, ℕ, ◌≤◌, ◌<◌}
use Rattle.locking.specs.Lists.{Mem, Before}
use Rattle.locking.specs.Tree.{Run, Has, TreeLocked, JobOrder}
use Rattle.locking.specs.Serial.{Entry, serial, Alike, EqualEffect}

-- The jobs below N did what the log says, each on items that it had locked.
pub record Logged {P : Type 0} (N : ℕ) (R : Run) (log : List (Entry P)) : Type 0 where
  -- the stamps rise
  pub rising : (e f : Entry P) → Before e f log → e.stamp < f.stamp
  pub known : (e : Entry P) → Mem e log → e.job < N
  -- a job acts on an item that it has locked, and not before it locked it
  pub locked : (e : Entry P) → Mem e log → Has R e.job e.item
  pub within : (e : Entry P) → Mem e log → R.at e.job e.item ≤ e.stamp
  -- and no more once a job that locked the item later has locked it
  pub released
      : (e : Entry P) → Mem e log → (k : ℕ) → k < N → Has R k e.item → R.at e.job e.item < R.at k e.item
      → e.stamp < R.at k e.item

-- The run is as if the jobs had run one after the other in the serial order `ord`.
pub record Serializable {P : Type 0} (V : Type 0) (N : ℕ) (R : Run) (log : List (Entry P)) (ord : List ℕ) : Type 0 where
  -- the order agrees with every item's order of locks
  pub order : JobOrder N R ord
  pub alike : Alike (serial ord log) log
  pub effect : (act : V → P → V) (s : ℕ → V) → EqualEffect act s (serial ord log) log

-- Every run of tree locking is serializable. P is the type of the operations, and V that of the items' values.
abbrev pub TreeSerial : Type 0 → Type 0 → Type 0
TreeSerial P V =
    (N : ℕ) (R : Run) (log : List (Entry P)) → TreeLocked N R → Logged N R log → (ord : List ℕ) × Serializable V N R log ord
