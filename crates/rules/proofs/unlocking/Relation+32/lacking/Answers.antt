use Rattle.std.proofs.Common.{◌≡◌, ℕ, true, not, ◌&&◌, get_or, rules, arith}
use Rattle.itemset.specs.Members.{holds, nothing}
use Rattle.rules.proofs.Gathering.{holding, lacking}
use Rattle.rules.proofs.unlocking.Relation+32.lacking.Goals as goal

pub returns : goal.returns
returns c =
    λ s l. let row = get_or c.args.self.now.rows s nothing in
    let made = get_or c.each.result.rows s nothing in
    let e : (m : ℕ) → holds made m ≡ (holds c.args.set m && not (holds row m)) = (let t = c.each.ensures s (omega arith) in λ m. search rules) in
    lacking (λ d. holds c.args.set d ≡ true) c.args.set row made (holding c.args.set) e
