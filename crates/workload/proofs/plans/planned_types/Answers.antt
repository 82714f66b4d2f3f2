use Rattle.std.proofs.Common.{◌≡◌, ℕ, ◌+◌, ◌<◌, cond, List, [], ◌∷◌, ◌++◌, length, get_or, take, is_ok, vec_items, sym, ap, ◌∙◌, subst, arith}
use Rattle.std.specs.List.{AllByRecursion as All}
use Rattle.std.proofs.ByRecursion.{All-push}
use Rattle.std.proofs.lemmas.List.{get_or_default, take_all, take_more}
use Rattle.std.proofs.lemmas.Bool.{some_since}
use Rattle.std.proofs.lemmas.Option.{MatchOption-at_some}
use Rattle.rules.specs.declared.state.State.{State}
use Rattle.rules.specs.Lawful.{Lawful}
use Rattle.rules.specs.Plans.{HasType, Kept, NoType, PlanFor}
use Rattle.rules.specs.View.{workload_of}
use Rattle.rules.proofs.Settled.{has_type}
use Rattle.workload.specs.declared.definition.JobType.{JobType}
use Rattle.workload.specs.Types.{all_plans, all_states}
use Rattle.workload.proofs.Lists.{all_push, kept_plans}
use Rattle.workload.proofs.plans.planned_types.Goals as goal

pub unwrap-plan-requires : goal.unwrap-plan-requires
unwrap-plan-requires c =
    let L = c.requires.1 in
    let ps = c.args.lock.now.tree.parents.now in
    let rows = c.args.rows.now in
    let t = c.loop-row.row-index in
    let i : t < length rows = omega arith in
    let e : c.as_slice-in-loop-row.result.now ≡ get_or rows t [] = c.as_slice-in-loop-row.ensures ∙ c.row-item.is ∙ get_or_default rows t c.row-item.result [] i in
    some_since c.plan_of.result (NoType ps c.as_slice-in-loop-row.result.now) (PlanFor ps c.as_slice-in-loop-row.result.now)
    c.plan_of.ensures
    (λ n. n L.items.1 (omega (arith, ap length e, (L.states t i).1)) c.requires.0 t rows (subst (HasType ps c.requires.0 rows t) (sym e) (has_type ps c.requires.0 rows L t i)))

pub loop-row-preserved : goal.loop-row-preserved
loop-row-preserved c =
    let ps = c.args.lock.now.tree.parents.now in
    let rows = c.args.rows.now in
    let t = c.loop-row.row-index in
    let old = vec_items c.loop-row.types in
    let j : JobType = record { states = c.in_ok-states.states; plan = c.unwrap-plan.result } in
    let row : vec_items j.states ≡ c.row-item.result = c.in_ok-states.ensures.items ∙ c.as_slice.ensures in
    let planned = MatchOption-at_some (NoType ps c.as_slice-in-loop-row.result.now) (PlanFor ps c.as_slice-in-loop-row.result.now) j.plan c.unwrap-plan.ensures
    c.plan_of.ensures in
    let items : vec_items c.push.new.self ≡ old ++ j ∷ [] = c.push.ensures.items ∙ ap (λ r. cond (is_ok r) (old ++ j ∷ []) old) c.in_ok-push.was in
    let more : take (t + 1) rows ≡ take t rows ++ c.row-item.result ∷ [] = take_more rows t c.row-item.result (omega arith) ∙ ap (λ (x : List State). take t rows ++ x ∷ []) (sym c.row-item.is) in
    record {
      states = ap all_states items ∙ all_push old j ∙ ap (λ (xs : List State). all_states old ++ xs ∷ []) row ∙ ap (λ (xs : List (List State)). xs ++ c.row-item.result ∷ []) c.loop-row.invariant.states ∙ sym more;
      plans = subst (All (λ (x : JobType). PlanFor ps (vec_items x.states) x.plan)) (sym items)
          (All-push (λ (x : JobType). PlanFor ps (vec_items x.states) x.plan) old j c.loop-row.invariant.plans
          (subst (λ (xs : List State). PlanFor ps xs j.plan) (c.as_slice-in-loop-row.ensures ∙ sym row) planned));
    }

pub returns-clause-plans : goal.returns-clause-plans
returns-clause-plans c =
    let ps = c.args.lock.now.tree.parents.now in
    let rows = c.args.rows.now in
    let all = vec_items c.loop-row.types in
    let e : all_states all ≡ rows = c.loop-row.invariant.states ∙ take_all c.loop-row.row-index rows (omega arith) in
    subst (λ (xs : List (List State)). (codes : ℕ) → Lawful ps codes xs → Kept (workload_of ps codes xs) (all_plans all)) e (kept_plans ps all c.loop-row.invariant.plans)
