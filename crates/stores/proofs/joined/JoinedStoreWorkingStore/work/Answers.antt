use Rattle.std.proofs.Common.{◌++◌, ap, drop, sym, ◌∙◌, rules}
use Rattle.std.proofs.lemmas.Int.{to_z-of_z}
use Rattle.stores.specs.Stores.{counted}
use Rattle.stores.proofs.Acts.{after_none}
use Rattle.stores.proofs.Seam.{in_first, in_second, in_neither, after_first, after_second, past_first, past_second}
use Rattle.stores.proofs.joined.JoinedStoreWorkingStore.work.Goals as goal

pub returns-in_err-part_of-clause-answer : goal.returns-in_err-part_of-clause-answer
returns-in_err-part_of-clause-answer g c = rw (in_neither _ _ _ _ c.len.ensures c.in_err-part_of.ensures) (search rules)

pub returns-in_err-part_of-clause-after : goal.returns-in_err-part_of-clause-after
returns-in_err-part_of-clause-after g c =
    let xs = g.First.ShowingStore.values c.args.self.now.first in
    let ys = g.Second.ShowingStore.values c.args.self.now.second in
    after_none g.K.Kind.acted _ _ _ (counted (xs ++ ys)) c.args.i (sym (in_neither xs ys _ _ c.len.ensures c.in_err-part_of.ensures))

pub returns-in-First-clause-answer : goal.returns-in-First-clause-answer
returns-in-First-clause-answer g c =
    let operand = c.ranges.operand in
    let register = c.ranges.register in
    let at = rw c.in-First.is at c.in_ok-part_of.ensures in
    rw (in_first _ _ _ _ c.len.ensures at) (simp to_z-of_z at c.work.ensures.answer)

pub returns-in-First-clause-after : goal.returns-in-First-clause-after
returns-in-First-clause-after g c =
    let ys = g.Second.ShowingStore.values c.args.self.now.second in
    let operand = c.ranges.operand in
    let register = c.ranges.register in
    let at = rw c.in-First.is at c.in_ok-part_of.ensures in
    ap (λ vs. counted (vs ++ ys)) (simp to_z-of_z at c.work.ensures.after)
    ∙ after_first _ ys _ _ c.len.ensures g.K.Kind.acted _ _ _ at

pub returns-in-Second-clause-answer : goal.returns-in-Second-clause-answer
returns-in-Second-clause-answer g c =
    let operand = c.ranges.operand in
    let register = c.ranges.register in
    let at = rw c.in-Second.is at c.in_ok-part_of.ensures in
    rw (in_second _ _ _ _ c.len.ensures _ at) (simp to_z-of_z at c.work-in-Second.ensures.answer)

pub returns-in-Second-clause-after : goal.returns-in-Second-clause-after
returns-in-Second-clause-after g c =
    let xs = g.First.ShowingStore.values c.args.self.now.first in
    let ys = g.Second.ShowingStore.values c.args.self.now.second in
    let operand = c.ranges.operand in
    let register = c.ranges.register in
    let at = rw c.in-Second.is at c.in_ok-part_of.ensures in
    ap (λ vs. counted (xs ++ vs)) (simp to_z-of_z at c.work-in-Second.ensures.after)
    ∙ after_second xs ys _ _ c.len.ensures g.K.Kind.acted _ _ _ _ at

pub returns-in-First-clause-outside : goal.returns-in-First-clause-outside
returns-in-First-clause-outside g c =
    let ys = g.Second.ShowingStore.values c.args.self.now.second in
    let operand = c.ranges.operand in
    let register = c.ranges.register in
    let at = rw c.in-First.is at c.in_ok-part_of.ensures in
    let past = ap (λ vs. drop 4096 (vs ++ ys)) (simp to_z-of_z at c.work.ensures.after)
    ∙ past_first _ ys _ _ c.len.ensures g.K.Kind.acted _ _ _ at in
    (c.work.ensures.outside, g.met.Second.WorkingStore.still c.args.self.now.second, past)

pub returns-in-Second-clause-outside : goal.returns-in-Second-clause-outside
returns-in-Second-clause-outside g c =
    let xs = g.First.ShowingStore.values c.args.self.now.first in
    let operand = c.ranges.operand in
    let register = c.ranges.register in
    let at = rw c.in-Second.is at c.in_ok-part_of.ensures in
    let past = ap (λ vs. drop 4096 (xs ++ vs)) (simp to_z-of_z at c.work-in-Second.ensures.after)
    ∙ past_second xs _ _ _ c.len.ensures g.K.Kind.acted _ _ _ _ at in
    (g.met.First.WorkingStore.still c.args.self.now.first, c.work-in-Second.ensures.outside, past)
