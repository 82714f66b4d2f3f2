-- The parts of a file have one answer each.
use Rattle.std.proofs.Common.{◌≡◌, ℕ, zero, suc, ◌+◌, ◌-◌, ◌*◌, ◌≤◌, List, [], ◌∷◌, length, take, drop, cond, ltb, Ok, Err, sym, ap, ◌∙◌, subst, inl, inr, arith}
use Rattle.std.proofs.lemmas.Bool.{cases_lt, lt-ltb, le-ltb}
use Rattle.workload.specs.declared.fault.Fault.{Fault}
use Rattle.workload.specs.declared.fault.Fault.TheVariants.{Missing, Record, Tail, Tree, Stray}
use Rattle.rules.specs.declared.state.State.{State}
use Rattle.workload.specs.Encoding.{mark, version}
use Rattle.rules.specs.Rules.{Lowest, Placed, Rooted}
use Rattle.workload.specs.Reads as reads
use Rattle.workload.specs.Reads.{Answer, Part, Done, Then, stops, goes, Several, Sign, Range, Parents, StateRecord, Ways, TypePart, Note, note_length, Header, File, Contents, right, other, inside, outside, broken, tree, stray, joined, long, short, trailing, whole, wrong, sound}
use Rattle.workload.proofs.Parts.{same_ok, same_err, ok_err}

-- no bytes have two answers
abbrev pub Only : {X : Type 0} → Part X → Type 0
Only {X} P = (bs : List ℕ) (a b : Answer X) → P bs a → P bs b → a ≡ b

done_only : {X : Type 0} (x : X) → Only (Done x)
done_only x bs a b p q = p ∙ sym q

then_only : {X Y : Type 0} (P : Part X) (Q : X → Part Y) → Only P → ((x : X) → Only (Q x)) → Only (Then P Q)
then_only P Q op oq bs a b (stops f p d) (stops g q e) = d ∙ ap (λ (h : Fault). Err h) (same_err f g (op bs (Err f) (Err g) p q)) ∙ sym e
then_only P Q op oq bs a b (stops f p d) (goes x r q e) = absurd (ok_err (x, r) f (op bs (Ok (x, r)) (Err f) q p))
then_only P Q op oq bs a b (goes x r p d) (stops g q e) = absurd (ok_err (x, r) g (op bs (Ok (x, r)) (Err g) p q))
then_only {X} P Q op oq bs a b (goes x r p d) (goes y s q e) =
    let u = op bs (Ok (x, r)) (Ok (y, s)) p q in
    oq x r a b d (subst (λ (z : X × List ℕ). Q z.0 z.1 b) (sym (same_ok (x, r) (y, s) u)) e)

several_only : {X : Type 0} (P : Part X) → Only P → (k : ℕ) → Only (Several P k)
several_only P o zero = done_only []
several_only P o (suc k) = then_only P (λ x. Then (Several P k) (λ xs. Done (x ∷ xs))) o (λ x. then_only (Several P k) (λ xs. Done (x ∷ xs)) (several_only P o k) (λ xs. done_only (x ∷ xs)))

lowest_same : (P : ℕ → Type 0) (n s t : ℕ) → Lowest P n s → Lowest P n t → s ≡ t
lowest_same P n s t h k = elim (cases_lt s t) [
  | inl l ↦ absurd (h.1 (k.2 s l))
  | inr l ↦ elim (cases_lt t s) [ inl m ↦ absurd (k.1 (h.2 t m)) | inr m ↦ omega arith ]
]

sign_only : (sign : List ℕ) (end : ℕ) → Only (Sign sign end)
sign_only sign end bs a b (reads.Sign.missing h1 e1) (reads.Sign.missing h2 e2) = e1 ∙ sym e2
sign_only sign end bs a b (reads.Sign.missing h1 e1) (other h2 n2 e2) = absurd (omega arith)
sign_only sign end bs a b (reads.Sign.missing h1 e1) (right h2 t2 e2) = absurd (omega arith)
sign_only sign end bs a b (other h1 n1 e1) (reads.Sign.missing h2 e2) = absurd (omega arith)
sign_only sign end bs a b (other h1 n1 e1) (other h2 n2 e2) = e1 ∙ sym e2
sign_only sign end bs a b (other h1 n1 e1) (right h2 t2 e2) = absurd (n1 t2)
sign_only sign end bs a b (right h1 t1 e1) (reads.Sign.missing h2 e2) = absurd (omega arith)
sign_only sign end bs a b (right h1 t1 e1) (other h2 n2 e2) = absurd (n2 t1)
sign_only sign end bs a b (right h1 t1 e1) (right h2 t2 e2) = e1 ∙ sym e2

range_only : (high end : ℕ) → Only (Range high end)
range_only high end bs a b (reads.Range.missing h1 e1) (reads.Range.missing h2 e2) = e1 ∙ sym e2
range_only high end bs a b (reads.Range.missing h1 e1) (outside h2 n2 e2) = absurd (omega arith)
range_only high end bs a b (reads.Range.missing h1 e1) (inside h2 l2 m2 e2) = absurd (omega arith)
range_only high end bs a b (outside h1 n1 e1) (reads.Range.missing h2 e2) = absurd (omega arith)
range_only high end bs a b (outside h1 n1 e1) (outside h2 n2 e2) = e1 ∙ sym e2
range_only high end bs a b (outside h1 n1 e1) (inside h2 l2 m2 e2) = absurd (elim n1 [ inl u ↦ omega arith | inr u ↦ omega arith ])
range_only high end bs a b (inside h1 l1 m1 e1) (reads.Range.missing h2 e2) = absurd (omega arith)
range_only high end bs a b (inside h1 l1 m1 e1) (outside h2 n2 e2) = absurd (elim n2 [ inl u ↦ omega arith | inr u ↦ omega arith ])
range_only high end bs a b (inside h1 l1 m1 e1) (inside h2 l2 m2 e2) = e1 ∙ sym e2

parents_only : (n end : ℕ) → Only (Parents n end)
parents_only n end bs a b (reads.Parents.missing h1 e1) (reads.Parents.missing h2 e2) = e1 ∙ sym e2
parents_only n end bs a b (reads.Parents.missing h1 e1) (broken i2 h2 k2 e2) = absurd (omega arith)
parents_only n end bs a b (reads.Parents.missing h1 e1) (tree h2 t2 e2) = absurd (omega arith)
parents_only n end bs a b (broken i1 h1 k1 e1) (reads.Parents.missing h2 e2) = absurd (omega arith)
parents_only n end bs a b (broken i1 h1 k1 e1) (broken i2 h2 k2 e2) = e1 ∙ ap (λ (i : ℕ). Err (Tree (end - length bs + i))) (lowest_same (Rooted (take n bs)) n i1 i2 k1 k2) ∙ sym e2
parents_only n end bs a b (broken i1 h1 k1 e1) (tree h2 t2 e2) = absurd (k1.1 (t2 i1 k1.0))
parents_only n end bs a b (tree h1 t1 e1) (reads.Parents.missing h2 e2) = absurd (omega arith)
parents_only n end bs a b (tree h1 t1 e1) (broken i2 h2 k2 e2) = absurd (k2.1 (t1 i2 k2.0))
parents_only n end bs a b (tree h1 t1 e1) (tree h2 t2 e2) = e1 ∙ sym e2

ways_only : (end : ℕ) (states : List State) → Only (Ways end states)
ways_only end states bs a b (stray s1 k1 e1) (stray s2 k2 e2) = e1 ∙ ap (λ (s : ℕ). Err (Stray (end - length bs - 11 * (length states - s)))) (lowest_same (Placed states) (length states) s1 s2 k1 k2) ∙ sym e2
ways_only end states bs a b (stray s1 k1 e1) (joined c2 e2) = absurd (k1.1 (c2 s1 k1.0))
ways_only end states bs a b (joined c1 e1) (stray s2 k2 e2) = absurd (k2.1 (c1 s2 k2.0))
ways_only end states bs a b (joined c1 e1) (joined c2 e2) = e1 ∙ sym e2

-- what the bytes of a note answer
note_answer : ℕ → List ℕ → Answer (List ℕ)
note_answer end bs =
    cond (ltb (length bs) 2) (Err (Missing end)) (cond (ltb 1000 (note_length bs)) (Err (Tail (end - length bs)))
    (cond (ltb (length bs) (2 + note_length bs)) (Err (Missing end)) (cond (ltb (2 + note_length bs) (length bs)) (Err (Tail (end - length bs + (2 + note_length bs)))) (Ok (drop 2 bs, [])))))

note_is : (end : ℕ) (bs : List ℕ) (a : Answer (List ℕ)) → Note end bs a → a ≡ note_answer end bs
unfolding note_answer
note_is end bs a (reads.Note.missing h e) = rw (lt-ltb (length bs) 2 h) e
note_is end bs a (long h l e) = rw (le-ltb (length bs) 2 h, lt-ltb 1000 (note_length bs) l) e
note_is end bs a (short h l m e) = rw (le-ltb (length bs) 2 h, le-ltb 1000 (note_length bs) l, lt-ltb (length bs) (2 + note_length bs) m) e
note_is end bs a (trailing h l m e) =
    let n : 2 + note_length bs ≤ length bs = omega arith in
    rw (le-ltb (length bs) 2 h, le-ltb 1000 (note_length bs) l, le-ltb (length bs) (2 + note_length bs) n, lt-ltb (2 + note_length bs) (length bs) m) e
note_is end bs a (whole l m e) =
    let h : 2 ≤ length bs = omega arith in
    let n : 2 + note_length bs ≤ length bs = omega arith in
    let o : length bs ≤ 2 + note_length bs = omega arith in
    rw (le-ltb (length bs) 2 h, le-ltb 1000 (note_length bs) l, le-ltb (length bs) (2 + note_length bs) n, le-ltb (2 + note_length bs) (length bs) o) e

note_only : (end : ℕ) → Only (Note end)
note_only end bs a b p q = note_is end bs a p ∙ sym (note_is end bs b q)

record_only : (items codes states end : ℕ) → Only (StateRecord items codes states end)
record_only items codes states end bs a b (reads.StateRecord.missing h1 e1) (reads.StateRecord.missing h2 e2) = e1 ∙ sym e2
record_only items codes states end bs a b (reads.StateRecord.missing h1 e1) (wrong k2 h2 w2 l2 e2) = absurd (omega arith)
record_only items codes states end bs a b (reads.StateRecord.missing h1 e1) (sound h2 n2 e2) = absurd (omega arith)
record_only items codes states end bs a b (wrong k1 h1 w1 l1 e1) (reads.StateRecord.missing h2 e2) = absurd (omega arith)
record_only items codes states end bs a b (wrong k1 h1 w1 l1 e1) (wrong k2 h2 w2 l2 e2) =
    let same : k1 ≡ k2 = elim (cases_lt k1 k2) [ inl l ↦ absurd (l2 k1 l w1) | inr l ↦ elim (cases_lt k2 k1) [ inl m ↦ absurd (l1 k2 m w2) | inr m ↦ omega arith ] ] in
    e1 ∙ ap (λ (k : ℕ). Err (Record (end - length bs + k))) same ∙ sym e2
record_only items codes states end bs a b (wrong k1 h1 w1 l1 e1) (sound h2 n2 e2) = absurd (n2 k1 w1)
record_only items codes states end bs a b (sound h1 n1 e1) (reads.StateRecord.missing h2 e2) = absurd (omega arith)
record_only items codes states end bs a b (sound h1 n1 e1) (wrong k2 h2 w2 l2 e2) = absurd (n1 k2 w2)
record_only items codes states end bs a b (sound h1 n1 e1) (sound h2 n2 e2) = e1 ∙ sym e2

type_only : (items codes end : ℕ) → Only (TypePart items codes end)
type_only items codes end =
    then_only (Range 32 end) (λ k. Then (Several (StateRecord items codes k end) k) (Ways end)) (range_only 32 end)
    (λ k. then_only (Several (StateRecord items codes k end) k) (Ways end) (several_only (StateRecord items codes k end) (record_only items codes k end) k) (ways_only end))

header_only : (end : ℕ) → Only (Header end)
header_only end =
    then_only _ _ (sign_only mark end) (λ m. then_only _ _ (sign_only version end) (λ v. then_only _ _ (range_only 64 end) (λ n. then_only _ _ (range_only 8 end) (λ t. then_only _ _ (range_only 255 end) (λ c.
    done_only _)))))

pub file_only : (end : ℕ) → Only (File end)
file_only end =
    then_only _ _ (header_only end) (λ h. then_only _ _ (parents_only h.items end) (λ parents. then_only _ _ (several_only (TypePart h.items h.codes end) (type_only h.items h.codes end) h.types) (λ types.
    then_only _ _ (note_only end) (λ note. done_only _))))
