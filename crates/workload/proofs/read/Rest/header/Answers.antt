use Rattle.std.proofs.Common.{refl, ◌∙◌}
use Rattle.workload.specs.Encoding.{version}
use Rattle.workload.specs.Reads.{Range, Sign, stops, goes}
use Rattle.workload.proofs.Parts.{at_end, handed}
use Rattle.workload.proofs.read.Rest.header.Goals as goal

pub returns-in_err-sign-clause-answer : goal.returns-in_err-sign-clause-answer
returns-in_err-sign-clause-answer c =
    let m = c.in_err-sign.ensures in
    (m.0, rw (handed _ _ c.from_residual.ensures.1) (stops _ m.1 refl))

pub returns-in_err-sign-2-clause-answer : goal.returns-in_err-sign-2-clause-answer
returns-in_err-sign-2-clause-answer c =
    let m = c.in_ok-sign.ensures in
    let v = c.in_err-sign-2.ensures in
    (v.0 ∙ m.0, rw (handed _ _ c.from_residual-in_err-sign-2.ensures.1) (goes _ _ m.1 (stops _ (at_end (Sign version) m.0 v.1) refl)))

pub returns-in_err-items-clause-answer : goal.returns-in_err-items-clause-answer
returns-in_err-items-clause-answer c =
    let m = c.in_ok-sign.ensures in
    let v = c.in_ok-sign-2.ensures in
    let n = c.in_err-items.ensures.answer in
    let e = v.0 ∙ m.0 in
    (n.0 ∙ e, rw (handed _ _ c.from_residual-in_err-items.ensures.1) (goes _ _ m.1 (goes _ _ (at_end (Sign version) m.0 v.1) (stops _ (at_end (Range 64) e n.1) refl))))

pub returns-in_err-types-clause-answer : goal.returns-in_err-types-clause-answer
returns-in_err-types-clause-answer c =
    let m = c.in_ok-sign.ensures in
    let v = c.in_ok-sign-2.ensures in
    let n = c.in_ok-items.ensures.answer in
    let t = c.in_err-types.ensures.answer in
    let e = v.0 ∙ m.0 in (
      t.0 ∙ n.0 ∙ e,
      rw (handed _ _ c.from_residual-in_err-types.ensures.1) (goes _ _ m.1 (goes _ _ (at_end (Sign version) m.0 v.1) (goes _ _ (at_end (Range 64) e n.1)
          (stops _ (at_end (Range 8) (n.0 ∙ e) t.1) refl)))),
    )

pub returns-in_err-codes-clause-answer : goal.returns-in_err-codes-clause-answer
returns-in_err-codes-clause-answer c =
    let m = c.in_ok-sign.ensures in
    let v = c.in_ok-sign-2.ensures in
    let n = c.in_ok-items.ensures.answer in
    let t = c.in_ok-types.ensures.answer in
    let k = c.in_err-codes.ensures.answer in
    let e = v.0 ∙ m.0 in (
      k.0 ∙ t.0 ∙ n.0 ∙ e,
      rw (handed _ _ c.from_residual-in_err-codes.ensures.1) (goes _ _ m.1 (goes _ _ (at_end (Sign version) m.0 v.1) (goes _ _ (at_end (Range 64) e n.1)
          (goes _ _ (at_end (Range 8) (n.0 ∙ e) t.1) (stops _ (at_end (Range 255) (t.0 ∙ n.0 ∙ e) k.1) refl))))),
    )

pub returns-clause-answer : goal.returns-clause-answer
returns-clause-answer c =
    let m = c.in_ok-sign.ensures in
    let v = c.in_ok-sign-2.ensures in
    let n = c.in_ok-items.ensures.answer in
    let t = c.in_ok-types.ensures.answer in
    let k = c.in_ok-codes.ensures.answer in
    let e = v.0 ∙ m.0 in (
      k.0 ∙ t.0 ∙ n.0 ∙ e,
      goes _ _ m.1 (goes _ _ (at_end (Sign version) m.0 v.1) (goes _ _ (at_end (Range 64) e n.1)
          (goes _ _ (at_end (Range 8) (n.0 ∙ e) t.1) (goes _ _ (at_end (Range 255) (t.0 ∙ n.0 ∙ e) k.1) refl)))),
    )
