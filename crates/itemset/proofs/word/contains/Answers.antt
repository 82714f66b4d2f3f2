use Rattle.std.proofs.Common.{◌^◌, ◌<◌, sym, ◌∙◌, arith}
use Rattle.std.proofs.lemmas.Bool.{le-ltb}
use Rattle.itemset.proofs.Laws.{has_below, has_read}
use Rattle.itemset.proofs.word.contains.Goals as goal

pub returns-then-d-lt64 : goal.returns-then-d-lt64
returns-then-d-lt64 c = has_read c.args.word c.args.d

pub returns-else-d-lt64 : goal.returns-else-d-lt64
returns-else-d-lt64 c =
    let h : c.args.word < 2 ^ 64 = omega arith in
    le-ltb c.args.d 64 c.if-d-lt64.false ∙ sym (has_below c.args.word 64 c.args.d h c.if-d-lt64.false)
