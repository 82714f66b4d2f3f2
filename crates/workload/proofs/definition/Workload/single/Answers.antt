use Rattle.std.proofs.Common.{◌≡◌, [], ◌∷◌, to_z-of_z}
use Rattle.std.proofs.lemmas.Result.{MatchResult-at_ok}
use Rattle.rules.specs.Rules.{AllRooted, BreaksAt}
use Rattle.workload.proofs.Starting.{makes_tree, single_lawful}
use Rattle.workload.proofs.definition.Workload.single.Goals as goal

pub unwrap-lock-requires : goal.unwrap-lock-requires
unwrap-lock-requires c = makes_tree _ c.of.result c.of.ensures

pub of_parts-requires : goal.of_parts-requires
of_parts-requires c =
    let made = MatchResult-at_ok (λ lock. (lock.tree.parents.now ≡ 255 ∷ []) × AllRooted (255 ∷ [])) (BreaksAt (255 ∷ [])) c.unwrap-lock.result c.unwrap-lock.ensures c.of.ensures in
    rw (c.push.ensures, c.empty-states.ensures, to_z-of_z c.ranges.operand, made.0) (single_lawful c.args.operand c.ranges.operand)
