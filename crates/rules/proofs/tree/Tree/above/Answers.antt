use Rattle.std.proofs.Common.{ℕ, ◌<◌, get_or, rules, arith}
use Rattle.itemset.specs.Members.{nothing}
use Rattle.rules.specs.Rules.{Parent}
use Rattle.rules.specs.Sets.{Exactly}
use Rattle.rules.proofs.Gathering.{reached_along, rows_only}
use Rattle.rules.proofs.tree.Tree.above.Goals as goal

pub spread-requires : goal.spread-requires
spread-requires c =
    let E = Parent c.args.self.now.parents.now in
    let rows = c.from_fn-parents.result.rows in
    let each : (s : ℕ) → s < 64 → Exactly (get_or rows s nothing) (E s) = λ s l. (let t = c.from_fn-parents.ensures s (omega arith) in search rules) in (
      omega arith,
      (
        let k = c.args.self.now.few in omega arith,
        λ s m j. (rows_only E 64 rows c.from_fn-parents.result.long (λ a b e. let i = e.0 in let k = e.2 in (omega (arith, c.args.self.now.few), omega (arith, c.args.self.now.few))) each s m j).0,
      ),
    )

pub returns : goal.returns
returns c =
    let E = Parent c.args.self.now.parents.now in
    let rows = c.from_fn-parents.result.rows in
    let each : (s : ℕ) → s < 64 → Exactly (get_or rows s nothing) (E s) = λ s l. (let t = c.from_fn-parents.ensures s (omega arith) in search rules) in
    reached_along E 64 rows c.from_fn-parents.result.long (λ a b e. let i = e.0 in let k = e.2 in (omega (arith, c.args.self.now.few), omega (arith, c.args.self.now.few))) each
    c.selves-above.result.rows c.spread.new.self.rows c.selves-above.result.long (λ s l. c.selves-above.ensures s (omega arith)) (λ s l. c.spread.ensures s (omega arith))
