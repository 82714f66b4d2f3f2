use Rattle.std.proofs.Common.{◌≡◌, ℕ, List, inr, refl, ◌∙◌, subst}
use Rattle.exports.proofs.Failing.{besides}
use Rattle.exports.specs.Runs.{NoRoom, Ran}
use Rattle.exports.specs.Told.{Ends, cannot, does, wants_room}
use Rattle.exports.specs.declared.told.End.{End}
use Rattle.exports.proofs.runs.fadzrike_run_slots.Goals as goal
use Rattle.kinds.specs.contracts.slot.SlotKind.TheImpl as slots
use Rattle.kinds.specs.declared.slot.Slot.{Slot}
use Rattle.stores.specs.Stores.{counted}
use Rattle.workload.specs.declared.fault.Fault.TheVariants.{Memory}

-- without what is said of the row of slots, which is not the caller's
told : {bs : List ℕ} {P Short Row A B : Type 0} (e : End) → Ends bs P Short (Row × A × B) e → Ends bs P Short (A × B) e
told _ (does e p) = does e p
told _ (cannot f why e) = cannot f (besides f (λ same. (same.1, same.2)) why) e
told _ (wants_room short same e) = wants_room short (same.1, same.2) e

pub returns-in-Ok : goal.returns-in-Ok
returns-in-Ok c =
    let file = c.args.file.now in
    let plain = c.args.plain.now in
    let made = c.run_and_tell in
    let answers = made.new.answers in
    let shown = made.new.shown in
    subst
    (λ (row : List Slot).
    Ends file (Ran slots.ghosts file (counted row) plain answers shown)
    (NoRoom plain (counted row) c.args.answers.now c.args.shown.now)
    ((answers ≡ c.args.answers.now) × (shown ≡ c.args.shown.now)) made.result)
    (c.as_mut_slice.ensures.value ∙ c.in-Ok.ensures) (told made.result made.ensures)

pub returns-in-Err : goal.returns-in-Err
returns-in-Err c = cannot Memory (inr refl) refl
