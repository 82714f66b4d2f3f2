use Rattle.std.proofs.Common.{◌≡◌, take, string_bytes}
use Rattle.yard_text.specs.Words.{parted}
use Rattle.yard_text.proofs.word.line.Given as goal

abbrev pub invariant-loop-i : goal.invariant-loop-i
invariant-loop-i l = string_bytes l.bytes ≡ parted (take l.i l.words)
