use Rattle.std.proofs.Common.{◌≡◌, ◌++◌, length, ap, rules}
use Rattle.yard_text.specs.Input.{collects}
use Rattle.yard_text.proofs.Calls.{asks_steps, asks_no_steps}
use Rattle.yard_text.proofs.input.turns.Goals.{then-len-eq3+in_ok-push_steps, else-len-eq3}
use Rattle.yard_text.proofs.input.turns.Goals as goal

pub returns : goal.returns
returns c =
    let bs = c.args.bytes.now in
    let rest = c.in_ok-calls.rest.now in
    let begins = c.in_ok-calls.calls.items in
    elim c.if-len-eq3.branch [
      | then-len-eq3+in_ok-push_steps w ↦
          let long : length begins ≡ 3 = search rules in
          asks_steps bs begins w.push_steps.new.calls.items _ rest c.in_ok-calls.ensures long w.in_ok-push_steps.ensures (ap (λ v. v.items ++ collects) w.calls-is)
      | else-len-eq3 w ↦
          let few : ¬ (length begins ≡ 3) = λ long. w.if-len-eq3.false (search rules) in
          asks_no_steps bs begins _ rest c.in_ok-calls.ensures few (ap (λ v. v.items ++ collects) w.calls-is)
    ]
