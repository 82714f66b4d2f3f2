use Rattle.std.proofs.Common.{ℕ, List, vec_items, sym, ap, ◌∙◌, length, subst₂, arith}
use Rattle.rules.specs.declared.state.State.{State}
use Rattle.rules.specs.Lawful.{Lawful}
use Rattle.itemset.specs.declared.ItemSet.{ItemSet}
use Rattle.rules.specs.Plans.{Kept}
use Rattle.rules.specs.Reach.{Reaches}
use Rattle.rules.specs.Rules.{Parent}
use Rattle.rules.specs.Sets.{Rows}
use Rattle.rules.specs.View.{workload_of}
use Rattle.workload.specs.Types.{all_plans, all_states}
use Rattle.workload.proofs.Lists.{few_arcs, four_bytes, length_all}
use Rattle.workload.proofs.definition.Workload.of_parts.Goals as goal

pub invariant_of-result : goal.invariant_of-result
invariant_of-result c =
    let n = c.args.code_count in
    let ps = vec_items c.in_ok-parents.parents in
    let all = vec_items c.in_ok-types.types in
    let same = sym (c.in_ok-parents.ensures.items ∙ c.parents.ensures) in
    let read = sym c.in_ok-types.ensures.states in
    let l : Lawful ps n (all_states all) = subst₂ (λ (x : List ℕ) (y : List (List State)). Lawful x n y) same read c.requires in
    let k : Kept (workload_of ps n (all_states all)) (all_plans all) =
    subst₂ (λ (x : List ℕ) (y : List (List State)). Kept (workload_of x n y) (all_plans all)) same read (c.in_ok-types.ensures.plans n c.requires) in
    let p = c.in_ok-parents.parents.ok.0 in
    let t = c.in_ok-types.types.ok.0 in
    let m = length_all all in
    record {
      items = (omega (arith, l.items.0), omega (arith, l.items.1));
      some = (omega (arith, l.types.0), omega (arith, l.types.1));
      counted = omega arith;
      few = few_arcs ps n (all_states all) l;
      four = four_bytes ps n (all_states all) l;
      lawful = ∣ l ∣₁;
      rows = ap length c.ways_up.ensures ∙ c.args.lock.now.above.long;
      ways_up = subst₂ (λ (x : List ℕ) (y : List ItemSet). ∥ Rows 64 y (Reaches (Parent x)) ∥₁) same (sym c.ways_up.ensures) c.args.lock.now.above_are;
      planned = ∣ k ∣₁;
    }
