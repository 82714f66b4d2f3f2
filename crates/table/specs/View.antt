-- The table in the words of the model.
use Rattle.std.specs.Prelude.{◌≡◌, ℕ, true, List, Some, None, Option, slice_index_or}
use Rattle.jobs.specs.declared.record.JobRecord.{JobRecord}
use Rattle.jobs.specs.View.{places_view}
use Rattle.model.specs.Table as model
use Rattle.model.specs.Workload.{Workload}
use Rattle.stores.specs.declared.store.ShowingStore as showing
use Rattle.stores.specs.declared.store.WorkingStore as working
use Rattle.table.specs.declared.definition.Table.{Table}
use Rattle.workload.specs.View as workload

abbrev pub table_over : {V : Type 0} → List V → List (Option JobRecord) → model.Table V
table_over vs ps = record { values = vs; places = places_view ps }

module _ {K S V : Type 0} where
  -- the store's values and the sixteen places
  abbrev pub view : showing.Ghosts S K V → Table K S V → model.Table V
  view s t = table_over (s.values t.store) t.shift.places

  -- the workload that the jobs go by
  abbrev pub graph : Table K S V → Workload
  graph t = workload.view t.shift.workload

  -- What no call changes: the workload, and what lies outside the values of the store.
  pub record Keeps (s : working.Ghosts S K V) (old new : Table K S V) : Type 0 where
    pub workload : new.shift.workload ≡ old.shift.workload
    pub outside : s.stays old.store new.store

  -- the job R stands at the place p, and its begin awaits its collect or leave
  abbrev pub Awaited : Table K S V → ℕ → JobRecord → Type 0
  Awaited t p R = (slice_index_or t.shift.places p None ≡ Some R) × (R.awaited ≡ true)
