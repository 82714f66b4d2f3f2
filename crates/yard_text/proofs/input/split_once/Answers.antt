use Rattle.std.proofs.Common.{◌≡◌, ◌<◌, length, rules, tests}
use Rattle.std.proofs.lemmas.Iterator.{IsFirst-from_position, YieldsList-from_slice}
use Rattle.std.specs.List.{AllWithin, HoldsAt}
use Rattle.yard_text.proofs.Bytes.{lacks_all, cut_at}
use Rattle.yard_text.proofs.input.split_once.Goals as goal

pub returns-in_err-at : goal.returns-in_err-at
returns-in_err-at c =
    let bs = c.args.bytes.now in
    let none : AllWithin (λ x. ¬ (x ≡ c.args.byte)) bs 0 (length bs) =
    IsFirst-from_position _ _ _ (λ x. x ≡ c.args.byte) (λ x. ¬ (x ≡ c.args.byte)) c.in_err-at.ensures.ran (YieldsList-from_slice bs cc) (λ x q k. search (rules, tests)) (λ x q k. search (rules, tests)) in
    rw c.from_residual.ensures (lacks_all c.args.byte bs none)

pub returns : goal.returns
returns c =
    let bs = c.args.bytes.now in
    let at = c.in_ok-at.at in
    let first : (at < length bs) × HoldsAt (λ x. x ≡ c.args.byte) bs at × AllWithin (λ x. ¬ (x ≡ c.args.byte)) bs 0 at =
    IsFirst-from_position _ _ _ (λ x. x ≡ c.args.byte) (λ x. ¬ (x ≡ c.args.byte)) c.in_ok-at.ensures.ran (YieldsList-from_slice bs cc) (λ x q k. search (rules, tests)) (λ x q k. search (rules, tests)) in
    cut_at c.args.byte bs at first.0 first.1 first.2
