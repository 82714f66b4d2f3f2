use Rattle.std.proofs.Common.{◌≡◌, ◌≤◌, map, take, length}
use Rattle.exports.specs.Plain.{plain_answer}
use Rattle.exports.proofs.plain.put_answers.Given as goal

abbrev pub invariant-loop-i : goal.invariant-loop-i
invariant-loop-i l =
    record {
      room : length l.answers ≤ length l.row;
      so_far : take l.i l.row ≡ map plain_answer (take l.i l.answers);
    }
