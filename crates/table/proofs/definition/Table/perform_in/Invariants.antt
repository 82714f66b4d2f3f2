use Rattle.std.proofs.Common.{◌≡◌, ◌≤◌, length, take, vec_items, vec_len, vec_capacity}
use Rattle.table.specs.View.{Keeps}
use Rattle.table.specs.Answers.{LeadsOn}
use Rattle.table.proofs.definition.Table.perform_in.Given as goal

abbrev pub invariant-loop-call : goal.invariant-loop-call
invariant-loop-call g l =
    record {
      answered : vec_len l.answers ≡ l.call-index;
      room : length l.calls ≤ vec_capacity l.answers;
      kept : Keeps g.S.WorkingStore l.initial.self l.self;
      leads : LeadsOn g.K.Kind g.S.ShowingStore l.initial.self (take l.call-index l.calls) (vec_items l.answers) l.self;
      within : l.call-index ≤ length l.calls;
    }
