-- What each call does to the places, by the model's rule for it.
use Rattle.std.proofs.Common.{◌≡◌, ℕ, ◌<◌, true, false, List, set, ℤ, Some, None, Ok, Err, Option, Result, sym, refl, ap, ◌∙◌, subst, arith}
use Rattle.std.specs.Option.{ok_or}
use Rattle.std.specs.List.{slice_index_or}
use Rattle.std.proofs.lemmas.Option.{none-some, same_Some}
use mathlib.Core.Option.{none, some}
use mathlib.Core.Option as math
use Rattle.kinds.specs.View as kind
use Rattle.kinds.specs.declared.kind.Kind as kinds
use Rattle.model.specs.Table.{Job, Placed, new_job, not_awaited, seat, Fits, Moves, begin, step, collect, leave, refused, began, told, collected, left, begin_no_place, begin_no_type, begin_taken, begins, step_no_job, steps, collect_early, collects, leaves_finished, leaves_unfinished}
use Rattle.model.specs.Table as model
use Rattle.model.proofs.History.{some_same, none_some}
use Rattle.jobs.specs.View.{job_view, place_view, places_view, told_view}
use Rattle.jobs.specs.declared.record.EnterError.{EnterError}
use Rattle.jobs.specs.declared.record.EnterError.TheVariants.{NoSuchPlace, NoSuchType, PlaceTaken}
use Rattle.jobs.specs.declared.record.JobRecord.{JobRecord}
use Rattle.jobs.specs.declared.record.StepAnswer.{StepAnswer}
use Rattle.jobs.specs.Turns.{Entered, enters, no_such_place, no_such_type, place_taken, Stepped, no_job, Unawaited, lets_go, nobody}
use Rattle.jobs.specs.Turns as turns
use Rattle.jobs.proofs.Keeping.{place_other, place_set, taken_within}
use Rattle.stores.specs.declared.store.ShowingStore as showing
use Rattle.table.specs.declared.answer.Refusal.TheVariants.{NoJob}
use Rattle.table.specs.declared.definition.Table.{Table}
use Rattle.table.specs.Answers.{step_answer}
use Rattle.table.specs.Numbers.{enter_number}
use Rattle.table.specs.View.{Awaited, graph, table_over, view}

err_ok : {T E : Type 0} {r : Result T E} {x : T} {e : E} → r ≡ Err e → r ≡ Ok x → ⊥
err_ok z y = cc

same_err : {T E : Type 0} {r : Result T E} {d e : E} → r ≡ Err d → r ≡ Err e → d ≡ e
same_err z y = cc

-- what holds of a record that stands there holds of the job there
of_job : (P : Job → Type 0) (x : Option JobRecord) → ((R : JobRecord) → x ≡ Some R → P (job_view R)) → (J : Job) → place_view x ≡ some J → P J
of_job P None h J e = absurd (none_some e)
of_job P (Some R) h J e = subst P (some_same e) (h R refl)

-- A call on the table t at the place p, and the places qs that it leaves.
module _ {K' S V : Type 0} (k : kinds.Ghosts K' V) (s : showing.Ghosts S K' V) (t : Table K' S V) (p : ℕ) (qs : List (Option JobRecord)) where
  -- the call c, answered by a, leaves these places and the values vs
  abbrev Leaves : model.Call → model.Answer → List V → Type 0
  Leaves c a vs = Moves (graph t) (kind.view k) (view s t) c a (table_over vs qs)

  -- the places after are those before, with x at the place p
  placed
      : (vs : List V) (x : Option JobRecord) (o : math.Option Job) → p < 16 → qs ≡ set t.shift.places p x → place_view x ≡ o
      → Placed (view s t) p o (table_over vs qs)
  placed vs x o i e f =
      record {
        there = ap (λ (z : List (Option JobRecord)). places_view z p) e ∙ place_set t.shift.places p x (omega (arith, t.shift.sixteen)) ∙ f;
        elsewhere = λ q n. ap (λ (z : List (Option JobRecord)). places_view z q) e ∙ place_other t.shift.places p q x n;
      }

  -- a job is entered, or why it is not
  module _ (ty : ℕ) (a : ℤ) (f : Fits (graph t) (kind.view k) (view s t)) where
    pub entered : (r : Result (Unit {0}) EnterError) → Entered t.shift.places p qs (graph t) ty a r → r ≡ Ok tt → Leaves (begin p ty a) began (s.values t.store)
    entered r (enters R i h e v q z) y =
        begins p ty a (table_over (s.values t.store) qs) f i h (ap place_view e) refl (placed (s.values t.store) (Some R) (some (new_job ty a)) i q (ap some v))
    entered r (no_such_place h q z) y = absurd (err_ok z y)
    entered r (no_such_type i h q z) y = absurd (err_ok z y)
    entered r (place_taken R i h e q z) y = absurd (err_ok z y)

    refused_as
        : (d e : EnterError) → d ≡ e → qs ≡ t.shift.places → Moves (graph t) (kind.view k) (view s t) (begin p ty a) (refused (enter_number d)) (view s t)
        → Leaves (begin p ty a) (refused (enter_number e)) (s.values t.store)
    refused_as d e x q m =
        subst (λ (c : EnterError). Leaves (begin p ty a) (refused (enter_number c)) (s.values t.store)) x (rw q m)

    pub not_entered
        : (r : Result (Unit {0}) EnterError) (e : EnterError) → Entered t.shift.places p qs (graph t) ty a r → r ≡ Err e
        → Leaves (begin p ty a) (refused (enter_number e)) (s.values t.store)
    not_entered r e (enters R i h x v q z) y = absurd (err_ok y z)
    not_entered r e (no_such_place h q z) y = refused_as NoSuchPlace e (same_err z y) q (begin_no_place p ty a f (λ i. absurd (omega arith)))
    not_entered r e (no_such_type i h q z) y = refused_as NoSuchType e (same_err z y) q (begin_no_type p ty a f i (λ n. absurd (omega arith)))
    not_entered r e (place_taken R i h x q z) y = refused_as PlaceTaken e (same_err z y) q (begin_taken p ty a (job_view R) f i h (ap place_view x))

  -- what a step at the place tells, or that no unfinished job is there
  pub stepped
      : (vs : List V) (r : Option StepAnswer) → p < 16 → Stepped t.shift.places p qs (graph t) (kind.view k) (s.values t.store) vs r
      → Leaves (step p) (step_answer (ok_or r NoJob)) vs
  stepped vs r i (turns.Stepped.steps R R' x there e f st v q z) =
      rw z (steps p (job_view R) (job_view R') (told_view x) (table_over vs qs) i (ap place_view e) f st (placed vs there (seat (job_view R')) i q v))
  stepped vs r i (no_job n q v z) = rw (z, q, v) (step_no_job p i (of_job (λ J. J.has_finished ≡ true) (slice_index_or t.shift.places p None) n))

  -- the job there, whose begin awaits its collect or leave
  module _ (R : JobRecord) (h : Awaited t p R) where
    within : p < 16
    within = taken_within t.shift.places p R t.shift.sixteen (sym h.0)

    pub too_early : R.finished ≡ false → Moves (graph t) (kind.view k) (view s t) (collect p) (refused 15) (view s t)
    too_early f = collect_early p (job_view R) (ap place_view h.0) h.1 f

    pub collected_so : (z : ℤ) → z ≡ R.register → R.finished ≡ true → qs ≡ set t.shift.places p None → Leaves (collect p) (collected z) (s.values t.store)
    collected_so z e f q =
        rw e
        (collects p (job_view R) (table_over (s.values t.store) qs) (ap place_view h.0) h.1 f refl (placed (s.values t.store) None none within q refl))

    pub left_so : R.finished ≡ true → qs ≡ set t.shift.places p None → Leaves (leave p) left (s.values t.store)
    left_so f q =
        leaves_finished p (job_view R) (table_over (s.values t.store) qs) (ap place_view h.0) h.1 f refl (placed (s.values t.store) None none within q refl)

    pub left_alone : R.finished ≡ false → Unawaited t.shift.places p qs → Leaves (leave p) left (s.values t.store)
    left_alone f (lets_go S R' d v q) =
        let same : not_awaited (job_view S) ≡ not_awaited (job_view R) = ap (λ (x : JobRecord). not_awaited (job_view x)) (same_Some S R (sym d ∙ h.0)) in
        leaves_unfinished p (job_view R) (table_over (s.values t.store) qs) (ap place_view h.0) h.1 f refl
        (placed (s.values t.store) (Some R') (some (not_awaited (job_view R))) within q (ap some (v ∙ same)))
    left_alone f (nobody d q) = absurd (none-some R (sym d ∙ h.0))
