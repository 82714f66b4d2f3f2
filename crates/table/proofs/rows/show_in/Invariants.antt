use Rattle.std.proofs.Common.{◌≡◌, ◌≤◌, map, length, take, vec_items, vec_len, vec_capacity}
use Rattle.table.proofs.rows.show_in.Given as goal

abbrev pub invariant-loop-i : goal.invariant-loop-i
invariant-loop-i g l =
    record {
      told : vec_len l.shown ≡ l.i;
      room : length (g.S.ShowingStore.values l.store) ≤ vec_capacity l.shown;
      so_far : vec_items l.shown ≡ take l.i (map g.K.Kind.number (g.S.ShowingStore.values l.store));
    }
