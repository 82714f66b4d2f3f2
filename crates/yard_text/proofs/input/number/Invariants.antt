use Rattle.std.proofs.Common.{◌≤◌, drop}
use Rattle.yard_text.proofs.Bytes.{Begun}
use Rattle.yard_text.proofs.input.number.Given as goal

abbrev pub invariant-loop-byte : goal.invariant-loop-byte
invariant-loop-byte l = record {
  begun : Begun l.word l.value (drop l.byte-index l.word);
  fits : l.value ≤ 4294967295;
}
