use Rattle.std.proofs.Common.{◌≡◌, ℕ, ◌<◌, ◌≤◌, false, length}
use Rattle.std.specs.Prelude.{slice_index_or}
use Rattle.itemset.specs.Members.{holds}
use Rattle.exports.proofs.looks.put_set.Given as goal

abbrev pub invariant-loop-d : goal.invariant-loop-d
invariant-loop-d l =
    record {
      room : 64 ≤ length l.row;
      so_far : (e : ℕ) → e < l.d → slice_index_or l.row e false ≡ holds l.set e;
    }
