use Rattle.std.proofs.Common.{length}
use Rattle.rules.specs.Rules.{Placed, stray}
use Rattle.rules.proofs.Lowest.{lowest_lacks, none_lacks}
use Rattle.rules.proofs.ways.Graph.lowest_stray.Goals as goal

pub returns-in_err-stray : goal.returns-in_err-stray
returns-in_err-stray c =
    let graph = c.args.self.now in
    let states = graph.states.now in
    rw c.from_residual.ensures
    (graph.few, none_lacks (Placed states) (length states) c.below.result c.placed.result c.difference.result c.below.ensures c.placed.ensures c.difference.ensures (c.in_err-stray.ensures))

pub returns : goal.returns
returns c =
    let graph = c.args.self.now in
    let states = graph.states.now in
    let low = c.in_ok-stray.ensures in
    stray graph.few (lowest_lacks (Placed states) (length states) c.below.result c.placed.result c.difference.result c.below.ensures c.placed.ensures c.difference.ensures c.in_ok-stray.stray low.0 low.1)
