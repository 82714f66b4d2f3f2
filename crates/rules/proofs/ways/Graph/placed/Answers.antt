use Rattle.std.proofs.Common.{ℕ, ◌<◌, length, refl, subst, arith}
use Rattle.rules.specs.Reach.{Joined, Reaches}
use Rattle.rules.specs.Rules.{Arc, Terminal}
use Rattle.rules.specs.Sets.{Exactly}
use Rattle.rules.proofs.Gathering.{arc_below, arcs_within, both, reaches_map, rows_all, rows_only}
use Rattle.rules.proofs.Rows.{turned}
use Rattle.rules.proofs.ways.Graph.placed.Goals as goal

pub reached-from_start-requires : goal.reached-from_start-requires
reached-from_start-requires c =
    let graph = c.args.self.now in
    (omega arith, (let k = graph.few in omega arith, arcs_within graph.states.now graph.few c.arcs-arcs.result.rows c.arcs-arcs.result.long c.arcs-arcs.ensures))

pub reached-to_end-requires : goal.reached-to_end-requires
reached-to_end-requires c =
    let graph = c.args.self.now in
    (omega arith, (let k = graph.few in omega arith, arcs_within graph.states.now graph.few c.arcs-arcs.result.rows c.arcs-arcs.result.long c.arcs-arcs.ensures))

pub returns : goal.returns
returns c =
    let graph = c.args.self.now in
    let states = graph.states.now in
    let arcs = c.arcs-arcs.result in
    let out : (s m : ℕ) → Joined arcs.rows s m → Arc states s m = rows_only (Arc states) 32 arcs.rows arcs.long (arc_below states graph.few) c.arcs-arcs.ensures in
    let in_rows : (s m : ℕ) → Arc states s m → Joined arcs.rows s m = rows_all (Arc states) 32 arcs.rows arcs.long (arc_below states graph.few) c.arcs-arcs.ensures in
    let from_start : Exactly c.reached-from_start.result (Reaches (Arc states) 0) = λ d. (
      λ h.
          let q = (c.reached-from_start.ensures d).0 h in
          subst (λ (s : ℕ). Reaches (Arc states) s d) ((c.only.ensures q.0).0 q.1) (reaches_map out q.2),
      λ p. (c.reached-from_start.ensures d).1 (0, (c.only.ensures 0).1 refl, reaches_map in_rows p),
    ) in
    let to_end : Exactly c.reached-to_end.result (λ d. (e : ℕ) × (e < length states) × Reaches (Arc states) d e × Terminal states e) = λ d. (
      λ h.
          let q = (c.reached-to_end.ensures d).0 h in
          let e = (c.ends.ensures q.0).0 q.1 in
          (q.0, e.0, turned (reaches_map (λ a b j. out b a j) q.2), e.1),
      λ p. (c.reached-to_end.ensures d).1 (p.0, (c.ends.ensures p.0).1 (p.1, p.3), reaches_map (λ a b j. in_rows b a j) (turned p.2)),
    ) in
    both (Reaches (Arc states) 0) (λ d. (e : ℕ) × (e < length states) × Reaches (Arc states) d e × Terminal states e) c.reached-from_start.result c.reached-to_end.result
    c.intersection.result from_start to_end c.intersection.ensures
