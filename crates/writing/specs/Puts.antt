-- What putting bytes into a buffer does.
use Rattle.std.specs.Prelude.{◌≡◌, ℕ, ◌+◌, ◌<◌, ◌≤◌, List, [], ◌∷◌, ◌++◌, length, take, drop, vec_items, slice_index_or}
use Rattle.std.specs.List.{flat_map}
use Rattle.rules.specs.declared.state.State.{State}
use Rattle.rules.specs.Lawful.{Packed}
use Rattle.rules.specs.Rules.{nowhere}
use Rattle.workload.specs.declared.definition.Workload.{Workload}
use Rattle.workload.specs.Encoding.{mark, type_bytes, version}
use Rattle.workload.specs.Types.{all_states}
use Rattle.workload.specs.View.{view}
use Rattle.writing.specs.declared.put.Writer.{Writer}

-- from the place `at` up to `end` the buffer holds the bytes, and is otherwise as it was
pub record Puts (old : List ℕ) (at : ℕ) (bytes new : List ℕ) (end : ℕ) : Type 0 where
  pub place : end ≡ at + length bytes
  pub wrote : new ≡ take at old ++ (bytes ++ drop end old)

-- the writer, still over the same buffer, puts the bytes behind what it wrote before
pub record Adds (old : Writer) (bytes : List ℕ) (new : Writer) : Type 0 where
  pub same : new.buffer.ghost_name ≡ old.buffer.ghost_name
  pub puts : Puts old.buffer.now old.at bytes new.buffer.now new.at

-- the bytes fit behind what is written
abbrev pub HasRoom : Writer → List ℕ → Type 0
HasRoom w bytes = w.at + length bytes ≤ length w.buffer.now

-- mark, version and the three counts
abbrev pub header_of : Workload → List ℕ
header_of w = mark ++ (version ++ ((view w).items ∷ (view w).types ∷ (view w).codes ∷ []))

-- the bytes of the job types
abbrev pub types_bytes : Workload → List ℕ
types_bytes w = flat_map type_bytes (all_states (vec_items w.types))

abbrev pub AllPacked : List State → Type 0
AllPacked states = (s : ℕ) → s < length states → Packed (slice_index_or states s nowhere)
