use Rattle.std.proofs.Common.{ℕ, List, string_bytes, subst}
use Rattle.exports.specs.Yard.{Puts, told}
use Rattle.exports.proofs.yard.fadzrike_yard.Goals as goal

pub returns-in-Ok : goal.returns-in-Ok
returns-in-Ok c =
    told (string_bytes c.in-Ok.text) c.in-Ok.ensures
    (subst (λ (text : List ℕ). Puts text c.args.output.now c.put_text.new.row c.put_text.result) c.as_bytes.ensures.value c.put_text.ensures)
