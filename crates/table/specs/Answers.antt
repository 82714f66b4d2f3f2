-- Calls and answers, as the definitions have them.
use Rattle.std.specs.Prelude.{◌≡◌, List, [], ◌∷◌, map, length, ℤ, Ok, Err, Result}
use Rattle.jobs.specs.View.{told_view}
use Rattle.jobs.specs.declared.record.StepAnswer.{StepAnswer}
use Rattle.kinds.specs.View as kind
use Rattle.kinds.specs.declared.kind.Kind as kinds
use Rattle.model.specs.Table as model
use Rattle.model.specs.Journal.{Event, Reached, Promise}
use Rattle.stores.specs.declared.store.ShowingStore as showing
use Rattle.workload.specs.View as workload
use Rattle.workload.specs.declared.definition.Workload.{Workload}
use Rattle.table.specs.declared.answer.Refusal.{Refusal}
use Rattle.table.specs.declared.answer.Call.{Call}
use Rattle.table.specs.declared.answer.Call.TheVariants as call
use Rattle.table.specs.declared.answer.Answer.{Answer}
use Rattle.table.specs.declared.answer.Answer.TheVariants as answer
use Rattle.table.specs.declared.definition.Table.{Table}
use Rattle.table.specs.declared.rows.Outcome.{Outcome}
use Rattle.table.specs.declared.ticket.Ticket.{Ticket}
use Rattle.table.specs.Numbers.{number}
use Rattle.table.specs.View.{graph, view}

abbrev pub begin_answer : Result Ticket Refusal → model.Answer
begin_answer (Ok t) = model.began
begin_answer (Err e) = model.refused (number e)

abbrev pub step_answer : Result StepAnswer Refusal → model.Answer
step_answer (Ok t) = model.told (told_view t)
step_answer (Err e) = model.refused (number e)

abbrev pub collect_answer : Result ℤ (Refusal × Ticket) → model.Answer
collect_answer (Ok v) = model.collected v
collect_answer (Err e) = model.refused (number e.0)

abbrev pub leave_answer : Result (Unit {0}) Refusal → model.Answer
leave_answer (Ok v) = model.left
leave_answer (Err e) = model.refused (number e)

abbrev pub call_view : Call → model.Call
call_view (call.Begin p t a) = model.begin p t a
call_view (call.Step p) = model.step p
call_view (call.Collect p) = model.collect p
call_view (call.Leave p) = model.leave p

abbrev pub answer_view : Answer → model.Answer
answer_view answer.Began = model.began
answer_view (answer.Stepped t) = model.told (told_view t)
answer_view (answer.Collected v) = model.collected v
answer_view answer.Left = model.left
answer_view (answer.Refused e) = model.refused (number e)

-- calls and answers in the order in which they were made, put before what was there: the latest stands first
abbrev pub logged : List Call → List Answer → List Event → List Event
logged [] ys past = past
logged (c ∷ cs) [] past = past
logged (c ∷ cs) (a ∷ ys) past = logged cs ys (record { call = call_view c; answer = answer_view a } ∷ past)

-- Of tables over a store of kind k, whose values s tells.
module _ {K S V : Type 0} (k : kinds.Ghosts K V) (s : showing.Ghosts S K V) where
  -- The call c, answered by a, leads from the table m to the table n.
  abbrev pub Moved : Table K S V → model.Call → model.Answer → Table K S V → Type 0
  Moved m c a n = model.Moves (graph m) (kind.view k) (view s m) c a (view s n)

  -- Whatever calls led to the table m: with these calls and answers they lead to n.
  abbrev pub LeadsOn : Table K S V → List Call → List Answer → Table K S V → Type 0
  LeadsOn m cs ys n =
      (first : List V) (past : List Event) → Reached (graph m) (kind.view k) first past (view s m)
      → Reached (graph m) (kind.view k) first (logged cs ys past) (view s n)

  -- And the promise stands there.
  abbrev pub PromisedOn : Table K S V → List Call → List Answer → Table K S V → Type 0
  PromisedOn m cs ys n =
      (first : List V) (past : List Event) → Reached (graph m) (kind.view k) first past (view s m)
      → Promise (graph m) (kind.view k) first (logged cs ys past) (view s n)

  -- A new table of the store and the workload comes to n by just these calls and answers.
  abbrev pub ReachedBy : S → Workload → List Call → List Answer → Table K S V → Type 0
  ReachedBy store w cs ys n = Reached (workload.view w) (kind.view k) (s.values store) (logged cs ys []) (view s n)

  -- And the promise stands there.
  abbrev pub PromisedBy : S → Workload → List Call → List Answer → Table K S V → Type 0
  PromisedBy store w cs ys n = Promise (workload.view w) (kind.view k) (s.values store) (logged cs ys []) (view s n)

-- What a list of calls on a new table over the values `first` comes to: an answer for each call, a table that is reached
-- by just these calls and answers, the promise there, and the number that each of its values shows.
pub record EndsWell {K V : Type 0} (k : kinds.Ghosts K V) (w : Workload) (first : List V) (cs : List Call) (o : Outcome) : Type 0 where
  pub table : model.Table V
  pub each : length o.answers.items ≡ length cs
  pub reached : Reached (workload.view w) (kind.view k) first (logged cs o.answers.items []) table
  pub promise : Promise (workload.view w) (kind.view k) first (logged cs o.answers.items []) table
  pub shows : o.shown.items ≡ map k.number table.values
