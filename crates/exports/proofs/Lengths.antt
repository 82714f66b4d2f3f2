-- How many answers and numbers there are to tell.
use Rattle.std.proofs.Common.{◌≡◌, ℕ, List, [], length, map, ap, ◌∙◌}
use Rattle.std.proofs.lemmas.List.{length-map}
use Rattle.exports.specs.Plain.{call_of}
use Rattle.exports.specs.Runs.{RunOf, RoundsOf, Rounds, once, again}
use Rattle.exports.specs.declared.plain.PlainCall.{PlainCall}
use Rattle.kinds.specs.View.{view as kind_view}
use Rattle.kinds.specs.declared.kind.Kind as kinds
use Rattle.model.proofs.Answered.{reached_length}
use Rattle.model.specs.Journal.{Event}
use Rattle.table.specs.Answers.{logged}
use Rattle.table.specs.declared.answer.Answer.{Answer}
use Rattle.table.specs.declared.answer.Call.{Call}
use Rattle.table.specs.declared.rows.Outcome.{Outcome}
use Rattle.workload.specs.View.{view as workload_view}

-- the last answers, of which there is one for each call
last_round : {cs : List Call} {past : List Event} (n : ℕ) (ys : List Answer) (es : List Event) → Rounds cs past n ys es → length ys ≡ length cs
last_round _ _ _ (once ys each) = each
last_round _ _ _ (again n xs ys es before each) = each

module _ {K V : Type 0} (k : kinds.Ghosts K V) (bs : List ℕ) (first : List V) (cs : List PlainCall) where
  pub numbers_of_run : (o : Outcome) → RunOf k bs first cs o → length o.shown.items ≡ length first
  numbers_of_run o r =
      let e = r.ends in
      ap length e.shows
      ∙ (length-map e.table.values k.number
      ∙ reached_length (workload_view r.workload) (kind_view k) (logged (map call_of cs) o.answers.items []) e.table e.reached)

  pub answers_of_rounds : (n : ℕ) (ys : List Answer) → RoundsOf k bs first cs n ys → length ys ≡ length cs
  answers_of_rounds n ys r = last_round n ys r.rounded.log r.rounded.rounds ∙ length-map cs call_of
