use Rattle.yard_text.proofs.Calls.{Joins}
use Rattle.yard_text.proofs.input.begins.Given as goal

abbrev pub invariant-loop-place : goal.invariant-loop-place
invariant-loop-place l = Joins l.bytes l.calls.items l.place l.rest
