use Rattle.std.proofs.Common.{drop}
use Rattle.yard_text.proofs.Calls.{GoesOn}
use Rattle.yard_text.proofs.input.push_steps.Given as goal

abbrev pub invariant-loop-byte : goal.invariant-loop-byte
invariant-loop-byte l = GoesOn l.bytes l.fn.calls.items (drop l.byte-index l.bytes) l.calls.items
