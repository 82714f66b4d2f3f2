use Rattle.std.proofs.Common.{◌≡◌, [], List, drop, sym, subst, ℕ}
use Rattle.std.proofs.lemmas.List.{drop_all}
use Rattle.yard_text.specs.Input.{NoDigit}
use Rattle.yard_text.proofs.Calls.{no_steps, no_digit_at, steps_more}
use Rattle.yard_text.proofs.input.push_steps.Goals as goal

pub loop-byte-preserved : goal.loop-byte-preserved
loop-byte-preserved c =
    let d = c.in-Some.ensures in
    steps_more c.args.bytes.now c.args.calls.now.items c.loop-byte.calls.items _ c.loop-byte.byte-index c.in-Some.place c.loop-byte.invariant c.loop-byte-test.true d.0 d.1 c.in_ok-push.ensures.items

pub returns-after-loop-byte : goal.returns-after-loop-byte
returns-after-loop-byte c =
    let i = c.loop-byte.byte-index in
    let ended : drop i c.args.bytes.now ≡ [] = drop_all i c.args.bytes.now c.loop-byte-test.false in
    let calls = c.loop-byte.calls.items in
    c.loop-byte.invariant calls (no_steps (drop i c.args.bytes.now) calls (subst (λ (l : List ℕ). NoDigit l) (sym ended) tt))

pub returns-in_default : goal.returns-in_default
returns-in_default c =
    let i = c.loop-byte.byte-index in
    let calls = c.loop-byte.calls.items in
    c.loop-byte.invariant calls (no_steps (drop i c.args.bytes.now) calls (no_digit_at c.args.bytes.now i c.loop-byte-test.true c.in_default.ensures))
