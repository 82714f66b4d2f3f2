use Rattle.std.proofs.Common.{ℕ, ◌≡◌, ◌+◌, ◌*◌, ◌<◌, [], length, drop, sym, ap, ◌∙◌, subst, arith, rules}
use Rattle.std.proofs.lemmas.List.{drop_all}
use Rattle.std.specs.Str.Parse.{AllDigits, digits_value_after}
use Rattle.yard_text.proofs.Bytes.{Begun, digits_at, one_more, too_large, no_digit}
use Rattle.yard_text.proofs.input.number.Goals as goal

pub returns-in_err-next : goal.returns-in_err-next
returns-in_err-next c =
    rw c.from_residual.ensures (λ n w le. no_digit _ (digits_at c.args.word.now c.loop-byte.byte-index 0 c.loop-byte-test.true w.numeral.1) c.in_err-next.ensures)

pub returns-in_err-checked_mul : goal.returns-in_err-checked_mul
returns-in_err-checked_mul c =
    let d = c.in_ok-next in
    let more = one_more c.loop-byte.byte-index c.loop-byte-test.true c.loop-byte.invariant.begun d.ensures.0 d.ensures.1 in
    let large : 4294967295 < c.loop-byte.value * 10 + d.next = omega (arith, c.in_err-checked_mul.ensures) in
    rw c.from_residual-in_err-checked_mul.ensures (too_large 4294967295 more large)

pub returns-in_err-value : goal.returns-in_err-value
returns-in_err-value c =
    let d = c.in_ok-next in
    let more = one_more c.loop-byte.byte-index c.loop-byte-test.true c.loop-byte.invariant.begun d.ensures.0 d.ensures.1 in
    let large : 4294967295 < c.loop-byte.value * 10 + d.next = search rules in
    rw c.from_residual-in_err-value.ensures (too_large 4294967295 more large)

pub loop-byte-preserved : goal.loop-byte-preserved
loop-byte-preserved c =
    let d = c.in_ok-next in
    let more = one_more c.loop-byte.byte-index c.loop-byte-test.true c.loop-byte.invariant.begun d.ensures.0 d.ensures.1 in
    let is : c.loop-byte.value * 10 + d.next ≡ c.in_ok-value.value = search rules in
    record {
      begun = subst (λ (v : ℕ). Begun c.args.word.now v (drop (c.loop-byte.byte-index + 1) c.args.word.now)) is more;
      fits = search rules;
    }

pub returns : goal.returns
returns c =
    let u = c.loop-byte.invariant.begun in
    let ended : drop c.loop-byte.byte-index c.args.word.now ≡ [] = drop_all c.loop-byte.byte-index c.args.word.now c.loop-byte-test.false in
    let some : 0 < length c.args.word.now = search rules in
    (record { numeral = (some, u.digits (subst (AllDigits 10) (sym ended) tt)); number = u.number ∙ ap (digits_value_after 10 c.loop-byte.value) ended }, c.loop-byte.invariant.fits)
