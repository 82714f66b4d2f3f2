-- Three jobs over three tallies: the calls that ran them by turns, what these answered, and the one serial order
-- that explains it.
use Rattle.std.specs.Prelude.{◌≡◌, ℕ, List, [], ◌∷◌, map, reverse, ℤ, pos}
use Rattle.kinds.specs.View as kind
use Rattle.kinds.specs.declared.kind.Kind.{Ghosts}
use Rattle.kinds.specs.declared.tally.Tally.{Tally}
use Rattle.model.specs.Journal.{Event, Reached, journal, EachOnce, OneByOne}
use Rattle.model.specs.Table.{Table, Told, released, worked, locked, gone, finished, Call, begin, step, collect, began, told, collected}
use Rattle.model.specs.Workload.{Workload}
use Rattle.rules.specs.Lawful.{Lawful}
use Rattle.rules.specs.View.{workload_of}
use Rattle.rules.specs.declared.state.State.{State}
use Rattle.examples.specs.States.{last, leading}

-- 1 and 2 stand right below the root, 0
abbrev pub listing_parents : List ℕ
listing_parents = 255 ∷ 0 ∷ 0 ∷ []

-- the first type adds its register to the tally 1, which clears it, and then reads the tally 2;
-- the second reads the tally 1; the third adds its register to the tally 2
abbrev pub listing_types : List (List State)
listing_types = (leading 1 2 1 ∷ last 2 0 ∷ []) ∷ (last 1 0 ∷ []) ∷ (last 2 2 ∷ []) ∷ []

abbrev pub listing_workload : Workload
listing_workload = workload_of listing_parents 4 listing_types

-- all tallies begin at 0
abbrev pub at_first : List ℤ
at_first = pos 0 ∷ pos 0 ∷ pos 0 ∷ []

-- accepted, a begin of the type t with the argument a at the place p, a step there, and a collect there
abbrev pub begun : ℕ → ℕ → ℕ → Event
begun p t a = record { call = begin p t (pos a); answer = began }

abbrev pub stepped : ℕ → Told → Event
stepped p a = record { call = step p; answer = told a }

abbrev pub gave : ℕ → ℕ → Event
gave p register = record { call = collect p; answer = collected (pos register) }

-- the calls and answers, in the order in which they were made
abbrev pub listing : List Event
listing =
    begun 0 0 10 ∷ begun 1 1 0 ∷ begun 2 2 7
    -- the job at the place 0 does its first work and lets the tally 1 go
    ∷ stepped 0 (locked 0) ∷ stepped 0 (locked 1) ∷ stepped 0 (worked 1) ∷ stepped 0 (gone 1) ∷ stepped 0 (released 1)
    -- the one at the place 1 reads what it left there
    ∷ stepped 1 (locked 1) ∷ stepped 1 (worked 1) ∷ stepped 1 (released 1) ∷ stepped 1 finished
    -- the one at the place 2 adds to the tally 2
    ∷ stepped 2 (locked 2) ∷ stepped 2 (worked 2) ∷ stepped 2 (released 2) ∷ stepped 2 finished
    -- only then the first reads it
    ∷ stepped 0 (locked 2) ∷ stepped 0 (released 0) ∷ stepped 0 (worked 2) ∷ stepped 0 (released 2) ∷ stepped 0 finished
    ∷ gave 0 7 ∷ gave 1 10 ∷ gave 2 0 ∷ []

-- as journals have them, the latest first
abbrev pub listing_events : List Event
listing_events = reverse listing

abbrev pub calls : List Event → List Call
calls es = map (λ (e : Event). e.call) es

-- k is the kind of tallies
pub record Listing (k : Ghosts Tally ℤ) : Type 0 where
  pub lawful : Lawful listing_parents 4 listing_types
  -- the calls have these answers
  pub table : Table ℤ
  pub reached : Reached listing_workload (kind.view k) at_first listing_events table
  -- and leave the tallies at 0, 10 and 7
  pub shows : map k.number table.values ≡ pos 0 ∷ pos 10 ∷ pos 7 ∷ []
  -- they have no other answers, and come to no other table
  pub only
      : (es : List Event) (m : Table ℤ) → Reached listing_workload (kind.view k) at_first es m → calls es ≡ calls listing_events
      → (es ≡ listing_events) × (m ≡ table)
  -- Run alone one after another, the job begun third, then the first, then the second do the works that they did,
  -- end with their registers and leave the tallies so
  pub explained
      : OneByOne listing_workload (kind.view k) (journal listing_workload (kind.view k) at_first listing_events)
      (2 ∷ 0 ∷ 1 ∷ []) at_first table.values
  -- and no other order does, whatever it leaves
  pub one_order
      : (order : List ℕ) (end : List ℤ) → EachOnce (journal listing_workload (kind.view k) at_first listing_events) order
      → OneByOne listing_workload (kind.view k) (journal listing_workload (kind.view k) at_first listing_events) order at_first end
      → order ≡ 2 ∷ 0 ∷ 1 ∷ []
