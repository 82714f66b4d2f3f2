-- The rules that every workload keeps, outright, since each of them can be decided; so a file can hold its types.
use Rattle.std.proofs.Common.{◌≡◌, ℕ, ◌<◌, ◌≤◌, List, [], length, get_or, vec_items, sym, ap, ◌∙◌, subst, arith}
use mathlib.Core.Logic.{∥∥₁_elim}
use native.Mathlib.Bridge.{le_prop}
use native.Mathlib.Nat.{ℕ_set}
use Rattle.rules.specs.declared.state.State.{State}
use Rattle.rules.specs.Lawful.{Lawful, Packed}
use Rattle.workload.specs.declared.definition.JobType.{JobType}
use Rattle.workload.specs.declared.definition.Workload.{Workload}
use Rattle.workload.specs.Types.{all_states}
use Rattle.workload.proofs.Lists.{length_all, states_read}
use Rattle.workload.proofs.Uses.{well_formed}
use Rattle.writing.specs.Puts.{AllPacked}

packed_prop : (x : State) (p q : Packed x) → p ≡ q
packed_prop x p q = λ i. record {
  few = le_prop p.few q.few i;
  four = ℕ_set _ _ p.four q.four i;
  unused = λ k h. ℕ_set _ _ (p.unused k h) (q.unused k h) i;
  operand = record { sfits = le_prop p.operand.sfits q.operand.sfits i };
}

module _ (w : Workload) where
  order : {m n : ℕ} → (Lawful (vec_items w.parents) w.code_count (all_states (vec_items w.types)) → m ≤ n) → m ≤ n
  order f = ∥∥₁_elim w.lawful le_prop f

  pub lawful : Lawful (vec_items w.parents) w.code_count (all_states (vec_items w.types))
  lawful = record {
    items = (order (λ l. l.items.0), order (λ l. l.items.1));
    codes = (order (λ l. l.codes.0), order (λ l. l.codes.1));
    types = (order (λ l. l.types.0), order (λ l. l.types.1));
    states = λ t h. (order (λ l. (l.states t h).0), order (λ l. (l.states t h).1));
    packed = λ t s h b. ∥∥₁_elim w.lawful (packed_prop _) (λ l. l.packed t s h b);
    formed = well_formed w;
  }

-- xs are the states of type t of the workload: few, and each as memory holds it
pub record StatesOf (w : Workload) (t : ℕ) (xs : List State) : Type 0 where
  pub within : t < length (all_states (vec_items w.types))
  pub are : xs ≡ get_or (all_states (vec_items w.types)) t []
  pub few : length xs ≤ 32
  pub packed : AllPacked xs

pub states_of
    : (w : Workload) (types : List JobType) (t : ℕ) (j : JobType) (xs : List State)
    → types ≡ vec_items w.types → t < length types → j ≡ get_or types t j → xs ≡ vec_items j.states → StatesOf w t xs
states_of w types t j xs e h i s =
    let all = vec_items w.types in
    let l = lawful w in
    let k : t < length all = omega (arith, ap length e) in
    let here : get_or all t j ≡ j = cc in
    let are : xs ≡ get_or (all_states all) t [] = s ∙ ap (λ (x : JobType). vec_items x.states) (sym here) ∙ sym (states_read all t j k) in
    let n : t < length (all_states all) = omega (arith, length_all all) in
    record { within = n; are = are; few = subst (λ (ys : List State). length ys ≤ 32) (sym are) (l.states t n).1; packed = subst AllPacked (sym are) (λ s b. l.packed t s n b) }
