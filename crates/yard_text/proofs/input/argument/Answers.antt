use Rattle.std.proofs.Common.{◌≡◌, ℕ, suc, ◌∷◌, List, length, get_or, ap, arith, rules}
use Rattle.yard_text.proofs.Bytes.{minus_first}
use Rattle.yard_text.proofs.Numbers.{after_minus_named, plain_named}
use Rattle.yard_text.proofs.input.argument.Goals as goal

pub returns-in_ok-number-in-45 : goal.returns-in_ok-number-in-45
returns-in_ok-number-in-45 c =
    let word = c.args.word.now in
    let head : get_or word 0 0 ≡ 45 = search rules in
    after_minus_named word _ c.in_ok-number-in-45.field-0 c.checked_sub_unsigned.result (minus_first word head) c.in_ok-number-in-45.ensures.0 c.checked_sub_unsigned.ensures

pub returns-in_ok-number-in_default : goal.returns-in_ok-number-in_default
returns-in_ok-number-in_default c =
    let word = c.args.word.now in
    let bare : (digits : List ℕ) → ¬ (word ≡ 45 ∷ digits) = λ digits e.
    let long : length word ≡ suc (length digits) = ap length e in
    let head : get_or word 0 0 ≡ 45 = ap (λ (l : List ℕ). get_or l 0 0) e in
    grind arith in
    plain_named word c.in_ok-number-in_default.field-0 c.checked_add_unsigned.result bare c.in_ok-number-in_default.ensures.0 c.checked_add_unsigned.ensures
