-- Plans that are kept under a truncation say outright what they say: each part is decidable.
use Rattle.std.proofs.Common.{◌≡◌, ℕ, ◌<◌, ◌≤◌, arith, Bool, List, [], length, get_or, Decides, refl, subst}
use mathlib.Core.Logic.{∥∥₁_elim, ∥∥₁_map}
use native.Mathlib.Nat.{ℕ_set}
use native.Mathlib.Decide.{dec_lt}
use Rattle.itemset.specs.declared.ItemSet.{ItemSet}
use Rattle.itemset.specs.Members.{nothing}
use Rattle.model.specs.Workload.{Workload, WellFormed, Above, LocalRoot}
use Rattle.model.proofs.Decide.{dec_unreachable, dec_unlockable, dec_named, dec_local, dec_child, dec_leaf}
use Rattle.model.proofs.Formed.{told_out}
use Rattle.model.proofs.Tree.{above?, local_root, root_one}
use Rattle.model.proofs.Ways.{dec_and, dec_true}
use Rattle.rules.specs.declared.plan.Plan.{Plan}
use Rattle.rules.specs.declared.state.State.{State}
use Rattle.rules.specs.Lawful.{Lawful}
use Rattle.rules.specs.Plans.{HasType, Kept, PlanFor, Planned, no_plan}
use Rattle.rules.specs.Reach.{Reaches}
use Rattle.rules.specs.Rules.{Parent}
use Rattle.rules.specs.Sets.{Exactly, Rows}
use Rattle.rules.specs.View.{workload_of}
use Rattle.rules.proofs.Formed.{top_marked}
use Rattle.rules.proofs.Matching.{above_reaches, reaches_above}

decided : {P : Type 0} {b : Bool} → Dec P → ∥ Decides b P ∥₁ → Decides b P
decided {P} {b} (yes x) h = (λ e. x, λ y. told_out (dec_true b) (∥∥₁_map h (λ d. d.1 y)))
decided {P} {b} (no n) h = (λ e. absurd (∥∥₁_elim h (λ (u v : ⊥). absurd u) (λ d. n (d.0 e))), λ y. absurd (n y))

-- the rows of a tree that are kept under a truncation say outright which items lie above each
pub above_settled
    : (parents : List ℕ) (codes : ℕ) (types : List (List State)) (F : WellFormed (workload_of parents codes types)) → length parents ≤ 64 → (rows : List ItemSet)
    → ∥ Rows 64 rows (Reaches (Parent parents)) ∥₁ → (d : ℕ) → d < length parents → Exactly (get_or rows d nothing) (λ a. Above (workload_of parents codes types) a d)
above_settled parents codes types F few rows k d i a =
    decided (above? (workload_of parents codes types) F a d (F.tree d i))
    (∥∥₁_map k (λ r. let u = r d (omega arith) a in (
      λ e. reaches_above parents codes types few (top_marked parents F.top_item) (u.0 e),
      λ g. u.1 (above_reaches parents codes types F.up_item i g),
    )))

module _ (W : Workload) (F : WellFormed W) (t : ℕ) (ht : t < W.types) (p : Plan) (k : ∥ Planned W t p ∥₁) where
  the_root : LocalRoot W t p.root
  the_root =
      let r = local_root W F t ht in
      let e : r.0 ≡ p.root = ∥∥₁_elim k (ℕ_set _ _) (λ q. root_one W F t ht r.1 q.root) in
      subst (λ (x : ℕ). LocalRoot W t x) e r.1

  pub settled : Planned W t p
  settled =
      record {
        root = the_root;
        local = λ d. decided (dec_local W F t ht p.root the_root d) (∥∥₁_map k (λ q. q.local d));
        named = λ d. decided (dec_named W F t ht d) (∥∥₁_map k (λ q. q.named d));
        leaves = λ d. decided (dec_leaf W F t ht p.root the_root d) (∥∥₁_map k (λ q. q.leaves d));
        children = λ d h c. decided (dec_child W F t ht p.root the_root d c) (∥∥₁_map k (λ q. q.children d h c));
        unreachable = λ s h d. decided (dec_and (dec_lt d W.items) (dec_unreachable W F t ht s d h)) (∥∥₁_map k (λ q. q.unreachable s h d));
        unlockable = λ s h d. decided (dec_unlockable W F t ht s d h) (∥∥₁_map k (λ q. q.unlockable s h d));
      }

module _ (W : Workload) (plans : List Plan) (k : ∥ Kept W plans ∥₁) where
  pub kept_each : WellFormed W → (t : ℕ) → t < W.types → Planned W t (get_or plans t no_plan)
  kept_each F t i = settled W F t i (get_or plans t no_plan) (∥∥₁_map k (λ q. q.each t i))

-- the states of a type of a lawful workload
pub has_type
    : (parents : List ℕ) (codes : ℕ) (types : List (List State)) → Lawful parents codes types
    → (t : ℕ) → t < length types → HasType parents codes types t (get_or types t [])
has_type parents codes types L t i = record { formed = L.formed; is_type = i; its_states = refl; four = λ s h. (L.packed t s i h).four }

-- a plan for each type
pub kept_of
    : (parents : List ℕ) (types : List (List State)) (plans : List Plan) → length plans ≡ length types
    → ((t : ℕ) → t < length types → PlanFor parents (get_or types t []) (get_or plans t no_plan))
    → (codes : ℕ) → Lawful parents codes types → Kept (workload_of parents codes types) plans
kept_of parents types plans e f codes L = record { long = e; each = λ t i. f t i codes t types (has_type parents codes types L t i) }
