use Rattle.std.proofs.Common.{◌≡◌, ℕ, ◌<◌, ◌≤◌, List, length, get_or, sym, refl, subst, arith}
use Rattle.rules.specs.declared.state.State.{State}
use Rattle.rules.specs.Reach.{Joined, Reaches}
use Rattle.rules.specs.Rules.{Arc, Parent}
use Rattle.rules.specs.Sets.{Exactly, NamingOf, item_at}
use Rattle.rules.specs.View.{workload_of}
use Rattle.rules.proofs.Settled.{settled}
use Rattle.itemset.specs.Members.{nothing}
use mathlib.Core.Logic.{∥∥₁_elim, ∥∥₁_map}
use Rattle.rules.proofs.Gathering.{arc_below, arcs_within, rows_all, rows_only}
use Rattle.rules.proofs.Planning.{Going, Made, lacking_of, named_along, none_for, planned_for}
use Rattle.rules.proofs.plan.plan_of.Goals as goal

pub named_ahead-ahead-requires-clause-within : goal.named_ahead-ahead-requires-clause-within
named_ahead-ahead-requires-clause-within c =
    let graph = c.in_ok-graph.graph in
    λ s m j. (arcs_within graph.states.now graph.few c.arcs-arcs.result.rows c.arcs-arcs.result.long c.arcs-arcs.ensures s m j).0

pub named_behind-behind-requires-clause-within : goal.named_behind-behind-requires-clause-within
named_behind-behind-requires-clause-within c =
    let graph = c.in_ok-graph.graph in
    arcs_within graph.states.now graph.few c.arcs-arcs.result.rows c.arcs-arcs.result.long c.arcs-arcs.ensures

pub each_left_behind-requires : goal.each_left_behind-requires
each_left_behind-requires c =
    let graph = c.in_ok-graph.graph in
    λ s m j. let i = (arcs_within graph.states.now graph.few c.arcs-arcs.result.rows c.arcs-arcs.result.long c.arcs-arcs.ensures s m j).1 in let k = graph.few in omega arith

pub returns-in_err-root : goal.returns-in_err-root
returns-in_err-root c =
    let lock = c.args.lock.now in
    let states = c.args.states.now in
    let naming = c.in_ok-naming.naming in
    rw c.from_residual-in_err-root.ensures
    (λ l k codes t types H. ∥∥₁_elim lock.above_are (λ (u v : ⊥). absurd u) (λ above.
    none_for lock.tree.parents.now states codes t types H lock.above.rows naming
    (record { few = lock.tree.few; above = above; names = c.in_ok-naming.ensures }) c.in_err-root.ensures))

pub returns : goal.returns
returns c =
    let lock = c.args.lock.now in
    let parents = lock.tree.parents.now in
    let states = c.in_ok-graph.graph.states.now in
    let ss : states ≡ c.args.states.now = c.in_ok-graph.ensures in
    let few : length parents ≤ 64 = lock.tree.few in
    let naming = c.in_ok-naming.naming in
    let up = lock.above.rows in
    let N : NamingOf parents up states naming = subst (λ (xs : List State). NamingOf parents up xs naming) (sym ss) c.in_ok-naming.ensures in
    let items : (s : ℕ) → s < length states → item_at states s < 64 = λ s l. let i = N.in_tree s l in omega arith in
    let arcs = c.arcs-arcs.result in
    let below = arc_below states c.in_ok-graph.graph.few in
    let out : (s m : ℕ) → Joined arcs.rows s m → Arc states s m = rows_only (Arc states) 32 arcs.rows arcs.long below c.arcs-arcs.ensures in
    let in_rows : (s m : ℕ) → Arc states s m → Joined arcs.rows s m = rows_all (Arc states) 32 arcs.rows arcs.long below c.arcs-arcs.ensures in
    let G : Going states arcs.rows c.named_ahead-ahead.result.rows c.named_behind-behind.result.rows = record {
      short = c.in_ok-graph.graph.few;
      arcs_are = λ s m. (out s m, in_rows s m);
      ahead_are = λ s l. named_along states items out in_rows s _ (c.named_ahead-ahead.ensures s l);
      behind_are = λ s l. named_along states items (λ a b. out b a) (λ a b. in_rows b a) s _ (c.named_behind-behind.ensures s l);
    } in
    let made : ((i : ℕ) → i < 64 → Exactly (get_or up i nothing) (Reaches (Parent parents) i)) → Made parents states _ = λ above. record {
      up = up;
      naming = naming;
      rooting = record { few = few; above = above; names = N };
      deepest = c.in_ok-root.ensures;
      local_is = c.local_items-local.ensures;
      children_are = c.children_in.ensures;
      leaves_are = c.leaves-leaves.ensures;
      named_is = refl;
      arcs = arcs.rows;
      ahead = c.named_ahead-ahead.result.rows;
      behind = c.named_behind-behind.result.rows;
      going = G;
      unreachable_are = λ s l. lacking_of _ _ c.items.ensures (c.lacking-unreachable.ensures s l);
      unlockable_are = c.each_left_behind.ensures;
    } in
    λ codes t types H. settled (workload_of parents codes types) H.formed t H.is_type _
    (∥∥₁_map lock.above_are (λ above. planned_for parents c.args.states.now codes t types H states _ ss (made above)))
