-- The states and the plans of job types as lists.
use Rattle.std.proofs.Common.{◌≡◌, ℕ, zero, suc, ◌<◌, ◌≤◌, List, [], ◌∷◌, ◌++◌, length, get_or, vec_items, sym, refl, ap, ◌∙◌, subst, inl, inr, arith}
use Rattle.rules.specs.declared.state.State.{State}
use Rattle.rules.specs.Lawful.{Lawful}
use Rattle.rules.specs.Rules.{nowhere}
use Rattle.rules.specs.Plans.{Kept, PlanFor, no_plan}
use Rattle.rules.specs.View.{state_at, workload_of}
use Rattle.rules.proofs.Settled.{kept_of}
use Rattle.std.specs.List.{AllByRecursion as All}
use Rattle.std.proofs.lemmas.List.{get_or_past}
use Rattle.std.proofs.lemmas.Bool.{cases_lt}
use Rattle.workload.specs.declared.definition.JobType.{JobType}
use Rattle.workload.specs.Types.{all_plans, all_states}

pub length_all : (all : List JobType) → length (all_states all) ≡ length all
length_all [] = refl
length_all (j ∷ all) = ap suc (length_all all)

pub all_push : (all : List JobType) (j : JobType) → all_states (all ++ j ∷ []) ≡ all_states all ++ vec_items j.states ∷ []
all_push [] j = refl
all_push (i ∷ all) j = ap (λ (xs : List (List State)). vec_items i.states ∷ xs) (all_push all j)

-- the states of a type that was read
pub states_read : (all : List JobType) (t : ℕ) (d : JobType) → t < length all → get_or (all_states all) t [] ≡ vec_items (get_or all t d).states
states_read [] t d h = absurd (omega arith)
states_read (j ∷ all) zero d h = refl
states_read (j ∷ all) (suc t) d h = states_read all t d (omega arith)

pub plans_read : (all : List JobType) (t : ℕ) (d : JobType) → t < length all → get_or (all_plans all) t no_plan ≡ (get_or all t d).plan
plans_read [] t d h = absurd (omega arith)
plans_read (j ∷ all) zero d h = refl
plans_read (j ∷ all) (suc t) d h = plans_read all t d (omega arith)

length_plans : (all : List JobType) → length (all_plans all) ≡ length all
length_plans [] = refl
length_plans (j ∷ all) = ap suc (length_plans all)

-- types that each have the plan of their states
pub kept_plans
    : (parents : List ℕ) (all : List JobType) → All (λ j. PlanFor parents (vec_items j.states) j.plan) all
    → (codes : ℕ) → Lawful parents codes (all_states all) → Kept (workload_of parents codes (all_states all)) (all_plans all)
kept_plans parents all each = kept_of parents (all_states all) (all_plans all) (length_plans all ∙ sym (length_all all)) (at all each)
  where
    at : (js : List JobType) → All (λ j. PlanFor parents (vec_items j.states) j.plan) js → (t : ℕ) → t < length (all_states js) → PlanFor parents (get_or (all_states js) t []) (get_or (all_plans js) t no_plan)
    at [] a t h = absurd (omega arith)
    at (j ∷ js) a zero h = a.0
    at (j ∷ js) a (suc t) h = at js a.1 t (omega arith)

-- only a type that is there has states
within : (all : List (List State)) (t s : ℕ) → s < length (get_or all t []) → t < length all
within all t s h = elim (cases_lt t (length all)) [
  | inl i ↦ i
  | inr i ↦ absurd (let e = ap length (get_or_past all t [] i) in omega arith)
]

module _ (parents : List ℕ) (codes : ℕ) (all : List (List State)) (l : Lawful parents codes all) where
  pub four_bytes : (t s : ℕ) → s < length (get_or all t []) → length (state_at all t s).arcs ≡ 4
  four_bytes t s h = (l.packed t s (within all t s h) h).four

  -- a state past the end has no arc
  pub few_arcs : (t s : ℕ) → (state_at all t s).arc_count ≤ 4
  few_arcs t s = elim (cases_lt s (length (get_or all t []))) [
    | inl h ↦ (l.packed t s (within all t s h) h).few
    | inr h ↦ subst (λ (x : State). x.arc_count ≤ 4) (sym (get_or_past (get_or all t []) s nowhere h)) (omega arith)
  ]
