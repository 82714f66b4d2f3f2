-- What is read of a file that is cut short, and of one that goes on.
use Rattle.std.proofs.Common.{◌≡◌, ℕ, zero, suc, ◌+◌, ◌-◌, ◌<◌, ◌≤◌, List, [], ◌∷◌, ◌++◌, length, get_or, take, drop, Ok, Err, sym, refl, ap, ◌∙◌, subst, inl, inr, arith, length-append, length-drop, length-take}
use Rattle.std.proofs.lemmas.List.{drop-append-le, drop-take, get_or_append_left, get_or-take, take_all, take-append-le, take-take}
use Rattle.std.proofs.lemmas.Bool.{cases_lt}
use Rattle.rules.specs.declared.state.State.{State}
use Rattle.rules.specs.Rules.{Rooted}
use Rattle.workload.specs.declared.fault.Fault.TheVariants.{Missing, Tail}
use Rattle.workload.specs.Encoding.{mark, version}
use Rattle.workload.specs.Format.{WrongByte, state_of}
use Rattle.workload.specs.Reads as reads
use Rattle.workload.specs.Reads.{Answer, Part, Done, Then, stops, goes, Several, Sign, Range, Parents, StateRecord, Ways, TypePart, Note, note_length, Header, File, Contents, Accepted, Refused, right, other, inside, outside, broken, tree, wrong, sound, stray, long, short, trailing, whole}
use Rattle.workload.proofs.Files.{file_complete}
use Rattle.workload.proofs.Parts.{ok_err, rest_same, then_open, value_same}

-- a part that reads n bytes, and whose value is a fact about them alone
record Fixed {X : Type 0} (n : ℕ) (P : ℕ → Part X) : Type 0 where
  pub lacking : (end : ℕ) (bs : List ℕ) → length bs < n → P end bs (Err (Missing end))
  pub size : (end : ℕ) (bs : List ℕ) (x : X) (rest : List ℕ) → P end bs (Ok (x, rest)) → (n ≤ length bs) × (rest ≡ drop n bs)
  pub alike
      : (end e : ℕ) (bs cs : List ℕ) (x : X) (rest : List ℕ) → P end bs (Ok (x, rest)) → n ≤ length cs → take n cs ≡ take n bs
      → P e cs (Ok (x, drop n cs))

-- a part of a file that is cut at k misses a field, or is read as before where all its bytes are there
record Cut {X : Type 0} (P : ℕ → Part X) : Type 0 where
  pub shorter : (end : ℕ) (bs : List ℕ) (x : X) (rest : List ℕ) → P end bs (Ok (x, rest)) → length rest ≤ length bs
  pub misses
      : (end e k : ℕ) (bs : List ℕ) (x : X) (rest : List ℕ) → P end bs (Ok (x, rest)) → k + length rest < length bs
      → P e (take k bs) (Err (Missing e))
  pub enough
      : (end e k : ℕ) (bs : List ℕ) (x : X) (rest : List ℕ) → P end bs (Ok (x, rest)) → length bs ≤ k + length rest
      → P e (take k bs) (Ok (x, take (k + length rest - length bs) rest))

-- a part is read as before where more bytes follow
abbrev GoesOn : {X : Type 0} → (ℕ → Part X) → Type 0
GoesOn {X} P =
    (end e : ℕ) (bs : List ℕ) (x : X) (rest more : List ℕ) → P end bs (Ok (x, rest)) → P e (bs ++ more) (Ok (x, rest ++ more))

module _ {X : Type 0} (n : ℕ) (P : ℕ → Part X) (f : Fixed n P) where
  fixed_cut : Cut P
  fixed_cut = record { shorter = shorter; misses = misses; enough = enough }
    where
      shorter : (end : ℕ) (bs : List ℕ) (x : X) (rest : List ℕ) → P end bs (Ok (x, rest)) → length rest ≤ length bs
      shorter end bs x rest p = let s = f.size end bs x rest p in omega (arith, ap length s.1, length-drop n bs)

      misses
          : (end e k : ℕ) (bs : List ℕ) (x : X) (rest : List ℕ) → P end bs (Ok (x, rest)) → k + length rest < length bs
          → P e (take k bs) (Err (Missing e))
      misses end e k bs x rest p h =
          let s = f.size end bs x rest p in
          f.lacking e (take k bs) (omega (arith, s.0, ap length s.1, length-drop n bs, length-take k bs))

      enough
          : (end e k : ℕ) (bs : List ℕ) (x : X) (rest : List ℕ) → P end bs (Ok (x, rest)) → length bs ≤ k + length rest
          → P e (take k bs) (Ok (x, take (k + length rest - length bs) rest))
      enough end e k bs x rest p h =
          let s = f.size end bs x rest p in
          let l = ap length s.1 ∙ length-drop n bs in
          let b = s.0 in
          let le : n ≤ k = omega arith in
          let a = f.alike end e bs (take k bs) x rest p (omega (arith, length-take k bs)) (take-take n k bs le) in
          let m : n + (k - n) ≡ k = omega arith in
          let c : k - n ≡ k + length rest - length bs = omega arith in
          let d : drop n (take k bs) ≡ take (k + length rest - length bs) rest =
          ap (λ (j : ℕ). drop n (take j bs)) (sym m) ∙ drop-take n (k - n) bs ∙ ap (λ (j : ℕ). take j (drop n bs)) c
          ∙ ap (λ (r : List ℕ). take (k + length rest - length bs) r) (sym s.1) in
          subst (λ (r : List ℕ). P e (take k bs) (Ok (x, r))) d a

  fixed_goes : GoesOn P
  fixed_goes end e bs x rest more p =
      let s = f.size end bs x rest p in
      let b = s.0 in
      let d : drop n (bs ++ more) ≡ rest ++ more = drop-append-le n bs more b ∙ ap (λ (r : List ℕ). r ++ more) (sym s.1) in
      subst (λ (r : List ℕ). P e (bs ++ more) (Ok (x, r))) d
      (f.alike end e bs (bs ++ more) x rest p (omega (arith, length-append bs more)) (take-append-le n bs more b))

module _ {X Y : Type 0} (P : ℕ → Part X) (Q : X → ℕ → Part Y) where
  then_cut : Cut P → ((x : X) → Cut (Q x)) → Cut (λ end. Then (P end) (λ x. Q x end))
  then_cut cp cq = record { shorter = shorter; misses = misses; enough = enough }
    where
      shorter : (end : ℕ) (bs : List ℕ) (y : Y) (last : List ℕ) → Then (P end) (λ x. Q x end) bs (Ok (y, last)) → length last ≤ length bs
      shorter end bs y last p =
          let o = then_open (P end) (λ x. Q x end) bs y last p in
          omega (arith, cp.shorter end bs o.0 o.1 o.2, (cq o.0).shorter end o.1 y last o.3)

      misses
          : (end e k : ℕ) (bs : List ℕ) (y : Y) (last : List ℕ) → Then (P end) (λ x. Q x end) bs (Ok (y, last)) → k + length last < length bs
          → Then (P e) (λ x. Q x e) (take k bs) (Err (Missing e))
      misses end e k bs y last p h =
          let o = then_open (P end) (λ x. Q x end) bs y last p in
          elim (cases_lt (k + length o.1) (length bs)) [
            | inl l ↦ stops (Missing e) (cp.misses end e k bs o.0 o.1 o.2 l) refl
            | inr l ↦ goes o.0 (take (k + length o.1 - length bs) o.1) (cp.enough end e k bs o.0 o.1 o.2 l)
                ((cq o.0).misses end e (k + length o.1 - length bs) o.1 y last o.3 (omega arith))
          ]

      enough
          : (end e k : ℕ) (bs : List ℕ) (y : Y) (last : List ℕ) → Then (P end) (λ x. Q x end) bs (Ok (y, last)) → length bs ≤ k + length last
          → Then (P e) (λ x. Q x e) (take k bs) (Ok (y, take (k + length last - length bs) last))
      enough end e k bs y last p h =
          let o = then_open (P end) (λ x. Q x end) bs y last p in
          let s = (cq o.0).shorter end o.1 y last o.3 in
          let j = k + length o.1 - length bs in
          let l : length bs ≤ k + length o.1 = omega arith in
          let c : j + length last - length o.1 ≡ k + length last - length bs = omega arith in
          goes o.0 (take j o.1) (cp.enough end e k bs o.0 o.1 o.2 l)
          (subst (λ (i : ℕ). Q o.0 e (take j o.1) (Ok (y, take i last))) c ((cq o.0).enough end e j o.1 y last o.3 (omega arith)))

  then_goes : GoesOn P → ((x : X) → GoesOn (Q x)) → GoesOn (λ end. Then (P end) (λ x. Q x end))
  then_goes gp gq end e bs y last more p =
      let o = then_open (P end) (λ x. Q x end) bs y last p in
      goes o.0 (o.1 ++ more) (gp end e bs o.0 o.1 more o.2) (gq o.0 end e o.1 y last more o.3)

done_fixed : {X : Type 0} (x : X) → Fixed 0 (λ end. Done x)
done_fixed {X} x = record {
  lacking = λ end bs h. absurd (omega arith);
  size = λ end bs y rest p. (omega arith, rest_same y x rest bs p);
  alike = λ end e bs cs y rest p h t. ap (λ (z : X). Ok (z, cs)) (value_same y x rest bs p);
}

several_cut : {X : Type 0} (P : ℕ → Part X) → Cut P → (k : ℕ) → Cut (λ end. Several (P end) k)
several_cut P c zero = fixed_cut 0 (λ end. Done []) (done_fixed [])
several_cut P c (suc k) =
    then_cut P (λ x end. Then (Several (P end) k) (λ xs. Done (x ∷ xs))) c
    (λ x. then_cut (λ end. Several (P end) k) (λ xs end. Done (x ∷ xs)) (several_cut P c k) (λ xs. fixed_cut 0 (λ end. Done (x ∷ xs)) (done_fixed (x ∷ xs))))

several_goes : {X : Type 0} (P : ℕ → Part X) → GoesOn P → (k : ℕ) → GoesOn (λ end. Several (P end) k)
several_goes P g zero = fixed_goes 0 (λ end. Done []) (done_fixed [])
several_goes P g (suc k) =
    then_goes P (λ x end. Then (Several (P end) k) (λ xs. Done (x ∷ xs))) g
    (λ x. then_goes (λ end. Several (P end) k) (λ xs end. Done (x ∷ xs)) (several_goes P g k) (λ xs. fixed_goes 0 (λ end. Done (x ∷ xs)) (done_fixed (x ∷ xs))))

-- the same bytes at a place in the front
same_byte : (n : ℕ) (bs cs : List ℕ) (i : ℕ) → i < n → take n cs ≡ take n bs → get_or bs i 0 ≡ get_or cs i 0
same_byte n bs cs i l t = sym (get_or-take n bs i 0 l) ∙ ap (λ (xs : List ℕ). get_or xs i 0) (sym t) ∙ get_or-take n cs i 0 l

sign_fixed : (sign : List ℕ) → Fixed (length sign) (Sign sign)
sign_fixed sign = record { lacking = λ end bs h. reads.Sign.missing h refl; size = size; alike = alike }
  where
    size : (end : ℕ) (bs x rest : List ℕ) → Sign sign end bs (Ok (x, rest)) → (length sign ≤ length bs) × (rest ≡ drop (length sign) bs)
    size end bs x rest (reads.Sign.missing h e) = absurd (ok_err (x, rest) _ e)
    size end bs x rest (other h n e) = absurd (ok_err (x, rest) _ e)
    size end bs x rest (right h t e) = (h, rest_same x sign rest (drop (length sign) bs) e)

    alike
        : (end e : ℕ) (bs cs x rest : List ℕ) → Sign sign end bs (Ok (x, rest)) → length sign ≤ length cs
        → take (length sign) cs ≡ take (length sign) bs → Sign sign e cs (Ok (x, drop (length sign) cs))
    alike end e bs cs x rest (reads.Sign.missing h i) l t = absurd (ok_err (x, rest) _ i)
    alike end e bs cs x rest (other h n i) l t = absurd (ok_err (x, rest) _ i)
    alike end e bs cs x rest (right h u i) l t =
        right l (t ∙ u) (ap (λ (y : List ℕ). Ok (y, drop (length sign) cs)) (value_same x sign rest (drop (length sign) bs) i))

range_fixed : (high : ℕ) → Fixed 1 (Range high)
range_fixed high = record { lacking = λ end bs h. reads.Range.missing h refl; size = size; alike = alike }
  where
    size : (end : ℕ) (bs : List ℕ) (x : ℕ) (rest : List ℕ) → Range high end bs (Ok (x, rest)) → (1 ≤ length bs) × (rest ≡ drop 1 bs)
    size end bs x rest (reads.Range.missing h e) = absurd (ok_err (x, rest) _ e)
    size end bs x rest (outside h n e) = absurd (ok_err (x, rest) _ e)
    size end bs x rest (inside h l m e) = (h, rest_same x (get_or bs 0 0) rest (drop 1 bs) e)

    alike
        : (end e : ℕ) (bs cs : List ℕ) (x : ℕ) (rest : List ℕ) → Range high end bs (Ok (x, rest)) → 1 ≤ length cs → take 1 cs ≡ take 1 bs
        → Range high e cs (Ok (x, drop 1 cs))
    alike end e bs cs x rest (reads.Range.missing h i) l t = absurd (ok_err (x, rest) _ i)
    alike end e bs cs x rest (outside h n i) l t = absurd (ok_err (x, rest) _ i)
    alike end e bs cs x rest (inside h a b i) l t =
        let s = same_byte 1 bs cs 0 (omega arith) t in
        inside l (omega arith) (omega arith) (ap (λ (y : ℕ). Ok (y, drop 1 cs)) (value_same x (get_or bs 0 0) rest (drop 1 bs) i ∙ s))

parents_fixed : (n : ℕ) → Fixed n (Parents n)
parents_fixed n = record { lacking = λ end bs h. reads.Parents.missing h refl; size = size; alike = alike }
  where
    size : (end : ℕ) (bs x rest : List ℕ) → Parents n end bs (Ok (x, rest)) → (n ≤ length bs) × (rest ≡ drop n bs)
    size end bs x rest (reads.Parents.missing h e) = absurd (ok_err (x, rest) _ e)
    size end bs x rest (broken i h l e) = absurd (ok_err (x, rest) _ e)
    size end bs x rest (tree h r e) = (h, rest_same x (take n bs) rest (drop n bs) e)

    alike
        : (end e : ℕ) (bs cs x rest : List ℕ) → Parents n end bs (Ok (x, rest)) → n ≤ length cs → take n cs ≡ take n bs
        → Parents n e cs (Ok (x, drop n cs))
    alike end e bs cs x rest (reads.Parents.missing h i) l t = absurd (ok_err (x, rest) _ i)
    alike end e bs cs x rest (broken j h b i) l t = absurd (ok_err (x, rest) _ i)
    alike end e bs cs x rest (tree h r i) l t =
        tree l (subst (λ (ps : List ℕ). (i : ℕ) → i < n → Rooted ps i) (sym t) r)
        (ap (λ (y : List ℕ). Ok (y, drop n cs)) (value_same x (take n bs) rest (drop n bs) i ∙ sym t))

record_fixed : (items codes states : ℕ) → Fixed 11 (StateRecord items codes states)
record_fixed items codes states = record { lacking = λ end bs h. reads.StateRecord.missing h refl; size = size; alike = alike }
  where
    size : (end : ℕ) (bs : List ℕ) (x : State) (rest : List ℕ) → StateRecord items codes states end bs (Ok (x, rest)) → (11 ≤ length bs) × (rest ≡ drop 11 bs)
    size end bs x rest (reads.StateRecord.missing h e) = absurd (ok_err (x, rest) _ e)
    size end bs x rest (wrong k h m n e) = absurd (ok_err (x, rest) _ e)
    size end bs x rest (sound h n e) = (h, rest_same x (state_of bs) rest (drop 11 bs) e)

    alike
        : (end e : ℕ) (bs cs : List ℕ) (x : State) (rest : List ℕ) → StateRecord items codes states end bs (Ok (x, rest)) → 11 ≤ length cs
        → take 11 cs ≡ take 11 bs → StateRecord items codes states e cs (Ok (x, drop 11 cs))
    alike end e bs cs x rest (reads.StateRecord.missing h i) l t = absurd (ok_err (x, rest) _ i)
    alike end e bs cs x rest (wrong k h m n i) l t = absurd (ok_err (x, rest) _ i)
    alike end e bs cs x rest (sound h n i) l t =
        let b0 = same_byte 11 bs cs 0 (omega arith) t in
        let b1 = same_byte 11 bs cs 1 (omega arith) t in
        let b2 = same_byte 11 bs cs 2 (omega arith) t in
        let b3 = same_byte 11 bs cs 3 (omega arith) t in
        let b4 = same_byte 11 bs cs 4 (omega arith) t in
        let b5 = same_byte 11 bs cs 5 (omega arith) t in
        let b6 = same_byte 11 bs cs 6 (omega arith) t in
        let b7 = same_byte 11 bs cs 7 (omega arith) t in
        let b8 = same_byte 11 bs cs 8 (omega arith) t in
        let b9 = same_byte 11 bs cs 9 (omega arith) t in
        let b10 = same_byte 11 bs cs 10 (omega arith) t in
        let s : state_of bs ≡ state_of cs = cc in
        sound l (subst (λ (y : State). (k : ℕ) → WrongByte items codes states y k → ⊥) s n)
        (ap (λ (y : State). Ok (y, drop 11 cs)) (value_same x (state_of bs) rest (drop 11 bs) i ∙ s))

ways_fixed : (states : List State) → Fixed 0 (λ end. Ways end states)
ways_fixed states = record { lacking = λ end bs h. absurd (omega arith); size = size; alike = alike }
  where
    size : (end : ℕ) (bs : List ℕ) (x : List State) (rest : List ℕ) → Ways end states bs (Ok (x, rest)) → (0 ≤ length bs) × (rest ≡ bs)
    size end bs x rest (stray s l e) = absurd (ok_err (x, rest) _ e)
    size end bs x rest (reads.Ways.joined c e) = (omega arith, rest_same x states rest bs e)

    alike
        : (end e : ℕ) (bs cs : List ℕ) (x : List State) (rest : List ℕ) → Ways end states bs (Ok (x, rest)) → 0 ≤ length cs → take 0 cs ≡ take 0 bs
        → Ways e states cs (Ok (x, cs))
    alike end e bs cs x rest (stray s l i) h t = absurd (ok_err (x, rest) _ i)
    alike end e bs cs x rest (reads.Ways.joined c i) h t = reads.Ways.joined c (ap (λ (y : List State). Ok (y, cs)) (value_same x states rest bs i))

module _ (items codes : ℕ) where
  type_cut : Cut (TypePart items codes)
  type_cut =
      then_cut (Range 32) (λ k end. Then (Several (StateRecord items codes k end) k) (Ways end)) (fixed_cut 1 (Range 32) (range_fixed 32))
      (λ k. then_cut (λ end. Several (StateRecord items codes k end) k) (λ states end. Ways end states)
      (several_cut (StateRecord items codes k) (fixed_cut 11 (StateRecord items codes k) (record_fixed items codes k)) k)
      (λ states. fixed_cut 0 (λ end. Ways end states) (ways_fixed states)))

  type_goes : GoesOn (TypePart items codes)
  type_goes =
      then_goes (Range 32) (λ k end. Then (Several (StateRecord items codes k end) k) (Ways end)) (fixed_goes 1 (Range 32) (range_fixed 32))
      (λ k. then_goes (λ end. Several (StateRecord items codes k end) k) (λ states end. Ways end states)
      (several_goes (StateRecord items codes k) (fixed_goes 11 (StateRecord items codes k) (record_fixed items codes k)) k)
      (λ states. fixed_goes 0 (λ end. Ways end states) (ways_fixed states)))

-- the note of a file that is cut short
note_cut : Cut Note
note_cut = record { shorter = shorter; misses = misses; enough = enough }
  where
    size : (end : ℕ) (bs x rest : List ℕ) → Note end bs (Ok (x, rest)) → (note_length bs ≤ 1000) × (length bs ≡ 2 + note_length bs) × (rest ≡ [])
    size end bs x rest (reads.Note.missing h e) = absurd (ok_err (x, rest) _ e)
    size end bs x rest (long h m e) = absurd (ok_err (x, rest) _ e)
    size end bs x rest (short h m n e) = absurd (ok_err (x, rest) _ e)
    size end bs x rest (trailing h m n e) = absurd (ok_err (x, rest) _ e)
    size end bs x rest (whole h m e) = (h, m, rest_same x (drop 2 bs) rest [] e)

    shorter : (end : ℕ) (bs x rest : List ℕ) → Note end bs (Ok (x, rest)) → length rest ≤ length bs
    shorter end bs x rest p = let s = size end bs x rest p in omega (arith, ap length s.2)

    misses : (end e k : ℕ) (bs x rest : List ℕ) → Note end bs (Ok (x, rest)) → k + length rest < length bs → Note e (take k bs) (Err (Missing e))
    misses end e k bs x rest p h =
        let s = size end bs x rest p in
        let l = length-take k bs in
        elim (cases_lt k 2) [
          | inl b ↦ reads.Note.missing (omega arith) refl
          | inr b ↦
              let c0 = get_or-take k bs 0 0 (omega arith) in
              let c1 = get_or-take k bs 1 0 (omega arith) in
              short (omega (arith, s.1)) (omega (arith, s.0)) (omega (arith, s.1)) refl
        ]

    enough
        : (end e k : ℕ) (bs x rest : List ℕ) → Note end bs (Ok (x, rest)) → length bs ≤ k + length rest
        → Note e (take k bs) (Ok (x, take (k + length rest - length bs) rest))
    enough end e k bs x rest (reads.Note.missing g i) h = absurd (ok_err (x, rest) _ i)
    enough end e k bs x rest (long g m i) h = absurd (ok_err (x, rest) _ i)
    enough end e k bs x rest (short g m n i) h = absurd (ok_err (x, rest) _ i)
    enough end e k bs x rest (trailing g m n i) h = absurd (ok_err (x, rest) _ i)
    enough end e k bs x rest (whole g m i) h =
        let v = value_same x (drop 2 bs) rest [] i in
        let r = rest_same x (drop 2 bs) rest [] i in
        let t : take k bs ≡ bs = take_all k bs (omega (arith, ap length r)) in
        let z : take (k + length rest - length bs) rest ≡ [] = ap (λ (y : List ℕ). take (k + length rest - length bs) y) r ∙ take_all (k + length rest - length bs) [] (omega arith) in
        subst (λ (ys : List ℕ). Note e ys (Ok (x, take (k + length rest - length bs) rest))) (sym t) (whole g m (cc))

header_cut : Cut Header
header_cut =
    then_cut (Sign mark) _ (fixed_cut 3 (Sign mark) (sign_fixed mark)) (λ _. then_cut (Sign version) _ (fixed_cut 2 (Sign version) (sign_fixed version)) (λ _.
    then_cut (Range 64) _ (fixed_cut 1 (Range 64) (range_fixed 64)) (λ n. then_cut (Range 8) _ (fixed_cut 1 (Range 8) (range_fixed 8)) (λ t.
    then_cut (Range 255) _ (fixed_cut 1 (Range 255) (range_fixed 255)) (λ c. fixed_cut 0 _ (done_fixed _))))))

header_goes : GoesOn Header
header_goes =
    then_goes (Sign mark) _ (fixed_goes 3 (Sign mark) (sign_fixed mark)) (λ _. then_goes (Sign version) _ (fixed_goes 2 (Sign version) (sign_fixed version)) (λ _.
    then_goes (Range 64) _ (fixed_goes 1 (Range 64) (range_fixed 64)) (λ n. then_goes (Range 8) _ (fixed_goes 1 (Range 8) (range_fixed 8)) (λ t.
    then_goes (Range 255) _ (fixed_goes 1 (Range 255) (range_fixed 255)) (λ c. fixed_goes 0 _ (done_fixed _))))))

file_cut : Cut File
file_cut =
    then_cut Header _ header_cut (λ h. then_cut (Parents h.items) _ (fixed_cut h.items (Parents h.items) (parents_fixed h.items)) (λ parents.
    then_cut (λ end. Several (TypePart h.items h.codes end) h.types) _ (several_cut (TypePart h.items h.codes) (type_cut h.items h.codes) h.types) (λ types.
    then_cut Note _ note_cut (λ note. fixed_cut 0 _ (done_fixed _)))))

-- every file that is cut short misses a field
pub cut_short : (bs : List ℕ) (x : Contents) (k : ℕ) → Accepted bs x → k < length bs → Refused (take k bs) (Missing k)
cut_short bs x k a h =
    let l : length (take k bs) ≡ k = omega (arith, length-take k bs) in
    subst (λ (e : ℕ). File (length (take k bs)) (take k bs) (Err (Missing e))) l
    (file_cut.misses (length bs) (length (take k bs)) k bs x [] (file_complete (length bs) bs x a) (omega arith))

note_trails
    : (end : ℕ) (bs x rest more : List ℕ) (e p : ℕ) → Note end bs (Ok (x, rest)) → 1 ≤ length more → p + length more ≡ e → length bs ≤ p
    → Note e (bs ++ more) (Err (Tail p))
note_trails end bs x rest more e p (reads.Note.missing h i) m l g = absurd (ok_err (x, rest) _ i)
note_trails end bs x rest more e p (long h k i) m l g = absurd (ok_err (x, rest) _ i)
note_trails end bs x rest more e p (short h k n i) m l g = absurd (ok_err (x, rest) _ i)
note_trails end bs x rest more e p (trailing h k n i) m l g = absurd (ok_err (x, rest) _ i)
note_trails end bs x rest more e p (whole h k i) m l g =
    let n = length-append bs more in
    let c0 = get_or_append_left bs more 0 0 (omega arith) in
    let c1 = get_or_append_left bs more 0 1 (omega arith) in
    let q : e - length (bs ++ more) + (2 + note_length (bs ++ more)) ≡ p = omega arith in
    trailing (omega arith) (omega arith) (omega arith) (ap (λ (j : ℕ). Err (Tail j)) (sym q))

-- every file that goes on is refused at the first byte too many
pub goes_past : (bs : List ℕ) (x : Contents) (b : ℕ) (more : List ℕ) → Accepted bs x → Refused (bs ++ b ∷ more) (Tail (length bs))
goes_past bs x b more a =
    let m = b ∷ more in
    let e = length (bs ++ m) in
    let n = length bs in
    let f = then_open _ _ bs x [] (file_complete n bs x a) in
    let g = then_open _ _ f.1 x [] f.3 in
    let t = then_open _ _ g.1 x [] g.3 in
    let o = then_open _ _ t.1 x [] t.3 in
    let h = f.0 in
    let P = TypePart h.items h.codes in
    let s1 = header_cut.shorter n bs h f.1 f.2 in
    let s2 = (fixed_cut h.items (Parents h.items) (parents_fixed h.items)).shorter n f.1 g.0 g.1 g.2 in
    let s3 = (several_cut P (type_cut h.items h.codes) h.types).shorter n g.1 t.0 t.1 t.2 in
    goes h (f.1 ++ m) (header_goes n e bs h f.1 m f.2)
    (goes g.0 (g.1 ++ m) (fixed_goes h.items (Parents h.items) (parents_fixed h.items) n e f.1 g.0 g.1 m g.2)
    (goes t.0 (t.1 ++ m) (several_goes P (type_goes h.items h.codes) h.types n e g.1 t.0 t.1 m t.2)
    (stops (Tail n) (note_trails n t.1 o.0 o.1 m e n o.2 (omega arith) (sym (length-append bs m)) (omega arith)) refl)))
