-- What is told of the job types of a file.
use Rattle.std.specs.Prelude.{◌≡◌, ℕ, ◌<◌, List, Bool, false, slice_index_or}
use Rattle.exports.specs.Told.{done, fault_end, no_room, nothing}
use Rattle.exports.specs.declared.looks.TypeTold.{TypeTold}
use Rattle.exports.specs.declared.told.End.{End}
use Rattle.itemset.specs.Members.{holds}
use Rattle.itemset.specs.declared.ItemSet.{ItemSet}
use Rattle.model.specs.Workload.{Local, LocalRoot, Unlockable, Unreachable}
use Rattle.sets.specs.Items.{ItemsOf}
use Rattle.workload.specs.Files.{NotRead}
use Rattle.workload.specs.Numbers.{numbered}
use Rattle.workload.specs.View.{HasState, view}
use Rattle.workload.specs.declared.definition.Workload.{Workload}
use Rattle.workload.specs.declared.fault.Fault.{Fault}
use Rattle.writing.specs.Files.{Holds}

-- How a call ends that looks into the workload of a file: what it looks for is there, and P tells of it, or it is not there,
-- or the file is not read, or a caller's row is too short. Where nothing is told, the caller's rows are as they were.
pub data Finds (bs : List ℕ) (Absent P : Workload → Type 0) (Short Same : Type 0) (e : End) : Type 0 where
  there : (w : Workload) → Holds bs w → P w → e ≡ done → Finds bs Absent P Short Same e
  absent : (w : Workload) → Holds bs w → Absent w → Same → e ≡ nothing → Finds bs Absent P Short Same e
  cannot : (f : Fault) → NotRead bs f → Same → e ≡ fault_end (numbered f) → Finds bs Absent P Short Same e
  wants_room : Short → Same → e ≡ no_room → Finds bs Absent P Short Same e

abbrev pub NoType : ℕ → Workload → Type 0
NoType t w = t < (view w).types → ⊥

abbrev pub NoState : ℕ → ℕ → Workload → Type 0
NoState t s w = HasState (view w) t s → ⊥

-- the row tells of each item whether the set holds it
abbrev pub Shows : ItemSet → List Bool → Type 0
Shows x row = (d : ℕ) → d < 64 → slice_index_or row d false ≡ holds x d

-- the row tells the items of the workload of which P holds
abbrev pub ShowsItems : Workload → (ℕ → Type 0) → List Bool → Type 0
ShowsItems w P row = (x : ItemSet) × ItemsOf (view w) P x × Shows x row

-- what is told of the type t
pub record TypeSets (t : ℕ) (told : TypeTold) (local : List Bool) (w : Workload) : Type 0 where
  pub states : told.states ≡ (view w).states t
  pub root : LocalRoot (view w) t told.root
  pub items : ShowsItems w (Local (view w) t) local

-- the sets of the state s of the type t
pub record StateSets (t s : ℕ) (never left : List Bool) (w : Workload) : Type 0 where
  pub unreachable : ShowsItems w (Unreachable (view w) t s) never
  pub unlockable : ShowsItems w (Unlockable (view w) t s) left
