use Rattle.std.proofs.Common.{length, unwrap_or, ap, ◌∙◌, w32, SFits, rules}
use Rattle.std.proofs.lemmas.Int.{to_z-of_z}
use Rattle.kinds.specs.View.{view}
use Rattle.stores.proofs.Acts.{after_length}
use Rattle.stores.proofs.States.{works_at}
use Rattle.stores.proofs.state_work.work_of_state.Goals as goal

pub returns-clause-works : goal.returns-clause-works
returns-clause-works g c =
    let a = c.args in
    let operand = c.ranges.operand in
    let register = c.ranges.register in
    let fits : SFits w32 c.unwrap_or.result = search rules in
    let answer = simp to_z-of_z at c.work.ensures.answer in
    let after = simp to_z-of_z at c.work.ensures.after in
    let kept = simp to_z-of_z at c.unwrap_or.ensures in
    works_at (view g.K.Kind) a.item a.code a.operand a.register _ _ _ after (to_z-of_z w32 _ fits ∙ kept ∙ ap (λ o. unwrap_or o a.register) answer)

pub returns-clause-length : goal.returns-clause-length
returns-clause-length g c = ap length c.work.ensures.after ∙ after_length g.K.Kind.acted _ _ _ _ c.args.item
