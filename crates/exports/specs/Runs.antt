-- What lists of plain calls come to.
use Rattle.std.specs.Prelude.{◌≡◌, ℕ, zero, ◌+◌, ◌<◌, ◌⊎◌, List, [], ◌++◌, map, length, take, ℤ}
use Rattle.exports.specs.declared.plain.PlainAnswer.{PlainAnswer}
use Rattle.exports.specs.declared.plain.PlainCall.{PlainCall}
use Rattle.exports.specs.Plain.{call_of, plain_answer}
use Rattle.kinds.specs.declared.kind.Kind as kinds
use Rattle.kinds.specs.View as kind
use Rattle.model.specs.Table as model
use Rattle.model.specs.Journal.{Event, Reached, Promise}
use Rattle.stores.specs.Stores.{counted}
use Rattle.stores.specs.declared.store.ShowingStore as showing
use Rattle.table.specs.Answers.{EndsWell, logged}
use Rattle.table.specs.View.{graph, view}
use Rattle.table.specs.declared.answer.Answer.{Answer}
use Rattle.table.specs.declared.answer.Call.{Call}
use Rattle.table.specs.declared.definition.Table.{Table}
use Rattle.table.specs.declared.rows.Outcome.{Outcome}
use Rattle.workload.specs.declared.definition.Workload.{Workload}
use Rattle.workload.specs.View.{view as workload_view}
use Rattle.writing.specs.Files.{Holds}
use Rattle.model.specs.Workload as graphs

-- the values of two rows that are joined: of each, and of both together, the first 4,096 count
abbrev pub joined : {V : Type 0} → (front back : List V) → List V
joined front back = counted (counted front ++ counted back)

-- the answers, and the numbers that the items show, stand at the front of the rows
pub record Tells (o : Outcome) (answers : List PlainAnswer) (shown : List ℤ) : Type 0 where
  pub told : take (length o.answers.items) answers ≡ map plain_answer o.answers.items
  pub numbers : take (length o.shown.items) shown ≡ o.shown.items

-- the rows have no room for an answer to each call, or none for the number that each value shows
abbrev pub NoRoom : {V : Type 0} → List PlainCall → List V → List PlainAnswer → List ℤ → Type 0
NoRoom cs first answers shown = (length answers < length cs) ⊎ (length shown < length first)

module _ {K V : Type 0} (k : kinds.Ghosts K V) (bs : List ℕ) (first : List V) (cs : List PlainCall) where
  -- the calls were made on a new table over the values and the file's workload, and came to the outcome
  pub record RunOf (o : Outcome) : Type 0 where
    pub workload : Workload
    pub file : Holds bs workload
    pub ends : EndsWell k workload first (map call_of cs) o

  -- and that outcome is told
  pub record Ran (answers : List PlainAnswer) (shown : List ℤ) : Type 0 where
    pub outcome : Outcome
    pub run : RunOf outcome
    pub told : Tells outcome answers shown

-- The calls are made, and then n times again, with an answer for each call. Of the answers the last ones are kept;
-- the log has all calls with their answers.
pub data Rounds (cs : List Call) (past : List Event) : ℕ → List Answer → List Event → Type 0 where
  once : (ys : List Answer) → length ys ≡ length cs → Rounds cs past zero ys (logged cs ys past)
  again
      : (n : ℕ) (xs ys : List Answer) (es : List Event) → Rounds cs past n xs es → length ys ≡ length cs
      → Rounds cs past (n + 1) ys (logged cs ys es)

-- so many rounds on a table that such events led to, under the workload W, come to the table m with the promise
pub record Rounded {V : Type 0} (W : graphs.Workload) (K : model.Kind V) (first : List V) (past : List Event) (cs : List Call) (n : ℕ) (ys : List Answer) (m : model.Table V) : Type 0 where
  pub log : List Event
  pub rounds : Rounds cs past n ys log
  pub reached : Reached W K first log m
  pub promise : Promise W K first log m

module _ {K S V : Type 0} (k : kinds.Ghosts K V) (s : showing.Ghosts S K V) where
  -- whatever calls led to the table m: with these rounds of calls they lead to o
  abbrev pub LeadsRound : Table K S V → List Call → ℕ → List Answer → Table K S V → Type 0
  LeadsRound m cs n ys o =
      (first : List V) (past : List Event) → Reached (graph m) (kind.view k) first past (view s m)
      → Rounded (graph m) (kind.view k) first past cs n ys (view s o)

module _ {K V : Type 0} (k : kinds.Ghosts K V) (bs : List ℕ) (first : List V) (cs : List PlainCall) (n : ℕ) where
  -- the rounds were made on a new table over the values and the file's workload
  pub record RoundsOf (ys : List Answer) : Type 0 where
    pub workload : Workload
    pub file : Holds bs workload
    pub table : model.Table V
    pub rounded : Rounded (workload_view workload) (kind.view k) first [] (map call_of cs) n ys table

  -- and the last answers stand at the front of the row
  pub record RanRounds (answers : List PlainAnswer) : Type 0 where
    pub last : List Answer
    pub run : RoundsOf last
    pub told : take (length last) answers ≡ map plain_answer last
