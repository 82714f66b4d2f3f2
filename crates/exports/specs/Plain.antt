-- Calls, answers and slots as plain numbers.
use Rattle.std.specs.Prelude.{ℕ, ℤ, pos, cond, eqb}
use Rattle.exports.specs.declared.plain.PlainCall.{PlainCall}
use Rattle.exports.specs.declared.plain.PlainAnswer.{PlainAnswer}
use Rattle.exports.specs.declared.plain.PlainSlot.{PlainSlot}
use Rattle.jobs.specs.declared.record.StepAnswer.{StepAnswer}
use Rattle.jobs.specs.declared.record.StepAnswer.TheVariants as tells
use Rattle.kinds.specs.declared.slot.Slot.{Slot}
use Rattle.kinds.specs.declared.slot.Slot.TheVariants.{Free, Held}
use Rattle.table.specs.Numbers.{number}
use Rattle.table.specs.declared.answer.Call.{Call}
use Rattle.table.specs.declared.answer.Call.TheVariants.{Begin, Step, Collect, Leave}
use Rattle.table.specs.declared.answer.Answer.{Answer}
use Rattle.table.specs.declared.answer.Answer.TheVariants.{Began, Stepped, Collected, Left, Refused}

-- the call that plain numbers stand for: 0 begins, 1 steps, 2 collects, and every other kind leaves
abbrev pub call_of : PlainCall → Call
call_of c =
    cond (eqb c.kind 0) (Begin c.place c.job_type c.argument)
    (cond (eqb c.kind 1) (Step c.place)
    (cond (eqb c.kind 2) (Collect c.place) (Leave c.place)))

-- the slot that a plain one stands for
abbrev pub slot_of : PlainSlot → Slot
slot_of p = cond p.held (Held p.number) Free

-- an answer of this kind, with what it tells
abbrev pub plain : ℕ → ℕ → ℕ → ℤ → PlainAnswer
plain kind first second register = record { kind = kind; first = first; second = second; register = register }

-- what a step told: an item, a state, or an item and the place of its holder
abbrev pub plain_told : StepAnswer → PlainAnswer
plain_told (tells.Released d) = plain 1 d 0 (pos 0)
plain_told (tells.Worked d) = plain 2 d 0 (pos 0)
plain_told (tells.Locked d) = plain 3 d 0 (pos 0)
plain_told (tells.Waiting d q) = plain 4 d q (pos 0)
plain_told (tells.Gone s) = plain 5 s 0 (pos 0)
plain_told tells.Finished = plain 6 0 0 (pos 0)

abbrev pub plain_answer : Answer → PlainAnswer
plain_answer Began = plain 0 0 0 (pos 0)
plain_answer (Stepped told) = plain_told told
plain_answer (Collected register) = plain 7 0 0 register
plain_answer Left = plain 8 0 0 (pos 0)
plain_answer (Refused why) = plain 9 (number why) 0 (pos 0)
