-- A record with no wrong byte has its numbers in range, and the other way round.
use Rattle.std.proofs.Common.{◌≡◌, ℕ, zero, suc, ◌+◌, ◌*◌, ◌<◌, ◌≤◌, List, [], length, get_or, drop, Ok, sym, refl, ap, subst, inl, inr, arith, length-drop, w32, SFits}
use Rattle.std.proofs.lemmas.List.{get_or_past}
use Rattle.std.proofs.lemmas.Bool.{cases_lt, cases_eq}
use Rattle.rules.specs.declared.state.State.{State}
use Rattle.rules.proofs.Fine.{InRange}
use Rattle.workload.specs.Format.{RightArc, WrongByte, no_item, no_code, many_arcs, no_state, not_zero, state_of}
use Rattle.workload.specs.Reads as reads
use Rattle.workload.specs.Reads.{Several, StateRecord, wrong, sound}
use Rattle.workload.proofs.Parts.{ok_err, value_same, rest_same, several_open}

module _ (items codes states : ℕ) (s : State) where
  -- where each byte is right, none is wrong
  pub none_wrong : (k : ℕ) → (k ≡ 0 → s.item < items) → (k ≡ 1 → s.code < codes) → (k ≡ 6 → s.arc_count ≤ 4)
      → ((j : ℕ) → k ≡ 7 + j → j < 4 → RightArc states s.arc_count j (get_or s.arcs j 0)) → WrongByte items codes states s k → ⊥
  none_wrong k a b c d (no_item e h) = omega (arith, a e)
  none_wrong k a b c d (no_code e h) = omega (arith, b e)
  none_wrong k a b c d (many_arcs e h) = omega (arith, c e)
  none_wrong k a b c d (no_state j e l m h) = omega (arith, (d j e l).0 m)
  none_wrong k a b c d (not_zero j e l m h) = h ((d j e l).1 m)

  pub ranged_right : InRange items codes states s → (k : ℕ) → WrongByte items codes states s k → ⊥
  ranged_right r k = none_wrong k (λ e. r.item) (λ e. r.code) (λ e. r.packed.few) (λ j e l. (r.arcs j, r.packed.unused j))

  pub arc_wrong : (j : ℕ) → j < 4 → (RightArc states s.arc_count j (get_or s.arcs j 0) → ⊥) → WrongByte items codes states s (7 + j)
  arc_wrong j l h = elim (cases_lt j s.arc_count) [
    | inl b ↦ elim (cases_lt (get_or s.arcs j 0) states) [
      | inl m ↦ absurd (h (λ _. m, λ c. absurd (omega arith)))
      | inr m ↦ no_state j refl l b m
    ]
    | inr b ↦ not_zero j refl l b (λ z. h (λ c. absurd (omega arith), λ _. z))
  ]

  arc_right : ((k : ℕ) → WrongByte items codes states s k → ⊥) → (j : ℕ) → j < 4 → RightArc states s.arc_count j (get_or s.arcs j 0)
  arc_right h j l = (
    λ b. elim (cases_lt (get_or s.arcs j 0) states) [ inl m ↦ m | inr m ↦ absurd (h (7 + j) (no_state j refl l b m)) ],
    λ b. elim (cases_eq (get_or s.arcs j 0) 0) [ inl m ↦ m | inr m ↦ absurd (h (7 + j) (not_zero j refl l b m)) ],
  )

  pub right_ranged : length s.arcs ≡ 4 → SFits w32 s.operand → ((k : ℕ) → WrongByte items codes states s k → ⊥) → InRange items codes states s
  right_ranged n o h =
      let few : s.arc_count ≤ 4 = elim (cases_lt 4 s.arc_count) [ inl m ↦ absurd (h 6 (many_arcs refl m)) | inr m ↦ m ] in
      record {
        item = elim (cases_lt s.item items) [ inl m ↦ m | inr m ↦ absurd (h 0 (no_item refl m)) ];
        code = elim (cases_lt s.code codes) [ inl m ↦ m | inr m ↦ absurd (h 1 (no_code refl m)) ];
        arcs = λ j b. (arc_right h j (omega arith)).0 b;
        packed = record {
          few = few;
          four = n;
          unused = λ j b. elim (cases_lt j 4) [ inl m ↦ (arc_right h j m).1 b | inr m ↦ get_or_past s.arcs j 0 (omega arith) ];
          operand = o;
        };
      }

-- what a record's reader has read
pub record Good (items codes states : ℕ) (bs : List ℕ) (x : State) (next : List ℕ) : Type 0 where
  pub enough : 11 ≤ length bs
  pub state : x ≡ state_of bs
  pub rest : next ≡ drop 11 bs
  pub right : (k : ℕ) → WrongByte items codes states x k → ⊥
  pub long : length next + 11 ≡ length bs

pub record_good
    : (items codes states end : ℕ) (bs : List ℕ) (x : State) (next : List ℕ) → StateRecord items codes states end bs (Ok (x, next))
    → Good items codes states bs x next
record_good items codes states end bs x next (reads.StateRecord.missing h e) = absurd (ok_err (x, next) _ e)
record_good items codes states end bs x next (wrong k h m n e) = absurd (ok_err (x, next) _ e)
record_good items codes states end bs x next (sound h n e) =
    let v = value_same x (state_of bs) next (drop 11 bs) e in
    let r = rest_same x (state_of bs) next (drop 11 bs) e in
    record {
      enough = h;
      state = v;
      rest = r;
      right = subst (λ (y : State). (k : ℕ) → WrongByte items codes states y k → ⊥) (sym v) n;
      long = omega (arith, ap length r, length-drop 11 bs);
    }

-- how many bytes k records take
pub records_long
    : (items codes states end k : ℕ) (bs : List ℕ) (xs : List State) (rest : List ℕ)
    → Several (StateRecord items codes states end) k bs (Ok (xs, rest)) → length rest + 11 * k ≡ length bs
records_long items codes states end zero bs xs rest e = omega (arith, ap length (rest_same xs [] rest bs e))
records_long items codes states end (suc k) bs xs rest e =
    let t = several_open (StateRecord items codes states end) k bs xs rest e in
    omega (arith, (record_good items codes states end bs t.0 t.1 t.3).long, records_long items codes states end k t.1 t.2 rest t.4)
