use Rattle.std.proofs.Common.{ℕ, ◌<◌, get_or}
use Rattle.workload.specs.Format.{RightArc}
use Rattle.workload.proofs.read.Limits.wrong_byte.Given as goal

abbrev pub invariant-loop-j : goal.invariant-loop-j
invariant-loop-j l = (j : ℕ) → j < l.j → RightArc l.self.states l.fn.state.arc_count j (get_or l.arc-items j 0)
