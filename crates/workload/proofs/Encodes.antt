-- What is read is what was written, part by part.
use Rattle.std.proofs.Common.{◌≡◌, ℕ, zero, suc, ◌+◌, ◌*◌, ◌/◌, ◌%◌, ◌^◌, ◌<◌, ◌≤◌, List, [], ◌∷◌, ◌++◌, length, get_or, take, drop, ℤ, Ok, sym, refl, ap, ◌∙◌, subst, append_assoc, arith, length-append, to_z-of_z, drop-cons, w32, Fits, SFits, to_z, of_z}
use native.Mathlib.Nat.{div-div-eq-div-mul}
use mir.Facts.{of_z-to_z, sfits_to_z, Fits-of_z}
use Rattle.std.proofs.lemmas.List.{take-append-drop, take_at, drop_at, get_or-append-add, length-take-le}
use Rattle.std.proofs.ByRecursion.{All-get_or, All-from_get_or}
use Rattle.std.specs.List.{AllByRecursion as All, flat_map}
use Rattle.workload.specs.declared.fault.Fault.TheVariants.{Missing}
use Rattle.rules.specs.declared.state.State.{State}
use Rattle.workload.specs.Encoding.{record_bytes, type_bytes}
use Rattle.workload.specs.Format.{signed, state_of}
use Rattle.rules.specs.Lawful.{Packed}
use Rattle.rules.specs.Rules.{Connected, Rooted, nowhere}
use Rattle.rules.proofs.Fine.{FineType, InRange}
use Rattle.workload.specs.Reads as reads
use Rattle.workload.specs.Reads.{Answer, Part, Then, stops, goes, Several, Sign, Range, Parents, StateRecord, Ways, TypePart, Note, Header, File, Contents, right, other, inside, outside, broken, tree, stray, long, short, trailing, whole, sound}
use Rattle.workload.proofs.Parts.{ok_err, value_same, rest_same, then_open, several_open}
use Rattle.workload.proofs.Ranges.{record_good, ranged_right, right_ranged}

-- each number is a byte
abbrev pub Bytes : List ℕ → Type 0
Bytes bs = (i : ℕ) → get_or bs i 0 < 256

pub bytes_rest : (bs xs rest : List ℕ) → bs ≡ xs ++ rest → Bytes bs → Bytes rest
bytes_rest bs xs rest e h i =
    let a = get_or-append-add xs rest i 0 in
    let b = ap (λ (l : List ℕ). get_or l (length xs + i) 0) e in
    omega (arith, h (length xs + i))

-- n bytes from place i on
abbrev pub bytes_at : ℕ → ℕ → List ℕ → List ℕ
bytes_at i zero bs = []
bytes_at i (suc n) bs = get_or bs i 0 ∷ bytes_at (suc i) n bs

pub fronted : (n i : ℕ) (bs : List ℕ) → i + n ≤ length bs → drop i bs ≡ bytes_at i n bs ++ drop (i + n) bs
fronted zero i bs h = ap (λ (k : ℕ). drop k bs) (omega arith)
fronted (suc n) i bs h =
    drop-cons bs i 0 (omega arith) ∙ ap (λ (xs : List ℕ). get_or bs i 0 ∷ xs) (fronted n (suc i) bs (omega arith) ∙ ap (λ (k : ℕ). bytes_at (suc i) n bs ++ drop k bs) (omega arith))

-- ---- fixed bytes and counts

pub sign_sound : (sign : List ℕ) (end : ℕ) (bs x rest : List ℕ) → Sign sign end bs (Ok (x, rest)) → bs ≡ sign ++ rest
sign_sound sign end bs x rest (reads.Sign.missing h e) = absurd (ok_err (x, rest) (Missing end) e)
sign_sound sign end bs x rest (other h n e) = absurd (ok_err (x, rest) _ e)
sign_sound sign end bs x rest (right h t e) =
    sym (take-append-drop (length sign) bs) ∙ ap (λ (l : List ℕ). l ++ drop (length sign) bs) t ∙ ap (λ (l : List ℕ). sign ++ l) (sym (rest_same x sign rest (drop (length sign) bs) e))

pub sign_complete : (sign : List ℕ) (end : ℕ) (rest : List ℕ) → Sign sign end (sign ++ rest) (Ok (sign, rest))
sign_complete sign end rest =
    right (simp length-append (omega arith)) (take_at sign rest (length sign) refl) (ap (λ (l : List ℕ). Ok (sign, l)) (sym (drop_at sign rest (length sign) refl)))

pub range_sound : (high end : ℕ) (bs : List ℕ) (n : ℕ) (rest : List ℕ) → Range high end bs (Ok (n, rest)) → (bs ≡ n ∷ rest) × (1 ≤ n) × (n ≤ high)
range_sound high end bs n rest (reads.Range.missing h e) = absurd (ok_err (n, rest) (Missing end) e)
range_sound high end bs n rest (outside h k e) = absurd (ok_err (n, rest) _ e)
range_sound high end bs n rest (inside h l m e) =
    let v = value_same n (get_or bs 0 0) rest (drop 1 bs) e in
    let r = rest_same n (get_or bs 0 0) rest (drop 1 bs) e in
    let u = fronted 1 0 bs h in
    (cc, omega arith, omega arith)

pub range_complete : (high end n : ℕ) (rest : List ℕ) → 1 ≤ n → n ≤ high → Range high end (n ∷ rest) (Ok (n, rest))
range_complete high end n rest l m = inside (omega arith) l m refl

-- ---- parents

pub parents_sound
    : (n end : ℕ) (bs ps rest : List ℕ) → Parents n end bs (Ok (ps, rest))
    → (bs ≡ ps ++ rest) × (length ps ≡ n) × ((i : ℕ) → i < length ps → Rooted ps i)
parents_sound n end bs ps rest (reads.Parents.missing h e) = absurd (ok_err (ps, rest) (Missing end) e)
parents_sound n end bs ps rest (broken i h k e) = absurd (ok_err (ps, rest) _ e)
parents_sound n end bs ps rest (tree h t e) =
    let v = value_same ps (take n bs) rest (drop n bs) e in
    let r = rest_same ps (take n bs) rest (drop n bs) e in
    let u = take-append-drop n bs in
    let l = length-take-le n bs h in
    (cc, cc, subst (λ (xs : List ℕ). (i : ℕ) → i < length xs → Rooted xs i) (sym v) (λ i b. t i (omega arith)))

pub parents_complete
    : (end : ℕ) (ps rest : List ℕ) → ((i : ℕ) → i < length ps → Rooted ps i) → Parents (length ps) end (ps ++ rest) (Ok (ps, rest))
parents_complete end ps rest t =
    let a = take_at ps rest (length ps) refl in
    let b = drop_at ps rest (length ps) refl in
    tree (simp length-append (omega arith)) (λ i l. subst (λ (xs : List ℕ). Rooted xs i) (sym a) (t i l)) (cc)

-- ---- records

four_bytes : (a b c d n : ℕ) → a < 256 → b < 256 → c < 256 → d < 256 → n ≡ a * 16777216 + b * 65536 + c * 256 + d
    → (n / 16777216 % 256 ≡ a) × (n / 65536 % 256 ≡ b) × (n / 256 % 256 ≡ c) × (n % 256 ≡ d) × (n < 2 ^ 32)
four_bytes a b c d n ha hb hc hd e = (omega arith, omega arith, omega arith, omega arith, omega arith)

-- a state that eleven bytes hold has these bytes
state_bytes : (bs : List ℕ) → 11 ≤ length bs → Bytes bs → (bs ≡ record_bytes (state_of bs) ++ drop 11 bs) × SFits w32 (state_of bs).operand
state_bytes bs l h =
    let a = get_or bs 2 0 in
    let b = get_or bs 3 0 in
    let c = get_or bs 4 0 in
    let d = get_or bs 5 0 in
    let n = a * 16777216 + b * 65536 + c * 256 + d in
    let q = four_bytes a b c d n (h 2) (h 3) (h 4) (h 5) refl in
    let f : Fits w32 n = record { fits = q.4 } in
    let o : of_z w32 (signed a b c d) ≡ n = of_z-to_z f in
    let q0 = ap (λ (x : ℕ). x / 16777216 % 256) o ∙ q.0 in
    let q1 = ap (λ (x : ℕ). x / 65536 % 256) o ∙ q.1 in
    let q2 = ap (λ (x : ℕ). x / 256 % 256) o ∙ q.2 in
    let q3 = ap (λ (x : ℕ). x % 256) o ∙ q.3 in
    let e = fronted 11 0 bs l in
    (cc, sfits_to_z f)

pub record_sound
    : (items codes states end : ℕ) (bs : List ℕ) (s : State) (rest : List ℕ) → Bytes bs → StateRecord items codes states end bs (Ok (s, rest))
    → (bs ≡ record_bytes s ++ rest) × InRange items codes states s
record_sound items codes states end bs s rest h p =
    let g = record_good items codes states end bs s rest p in
    let r = state_bytes bs g.enough h in
    let at : bs ≡ record_bytes s ++ rest = r.0 ∙ ap (λ (x : State). record_bytes x ++ drop 11 bs) (sym g.state) ∙ ap (λ (t : List ℕ). record_bytes s ++ t) (sym g.rest) in
    let four : length s.arcs ≡ 4 = ap (λ (x : State). length x.arcs) g.state in
    (at, right_ranged items codes states s four (subst (λ (x : State). SFits w32 x.operand) (sym g.state) r.1) g.right)

pub four : (xs : List ℕ) → length xs ≡ 4 → xs ≡ get_or xs 0 0 ∷ get_or xs 1 0 ∷ get_or xs 2 0 ∷ get_or xs 3 0 ∷ []
four [] h = absurd (omega arith)
four (a ∷ []) h = absurd (omega arith)
four (a ∷ b ∷ []) h = absurd (omega arith)
four (a ∷ b ∷ c ∷ []) h = absurd (omega arith)
four (a ∷ b ∷ c ∷ d ∷ []) h = refl
four (a ∷ b ∷ c ∷ d ∷ e ∷ xs) h = absurd (omega arith)

four_parts : (n a b c : ℕ) → n / 256 ≡ a → a / 256 ≡ b → b / 256 ≡ c → c < 256 → c % 256 * 16777216 + b % 256 * 65536 + a % 256 * 256 + n % 256 ≡ n
four_parts n a b c ea eb ec h = omega arith

quad_back : (n : ℕ) → n < 2 ^ 32 → n / 16777216 % 256 * 16777216 + n / 65536 % 256 * 65536 + n / 256 % 256 * 256 + n % 256 ≡ n
quad_back n h = four_parts n (n / 256) (n / 65536) (n / 16777216) refl (div-div-eq-div-mul n 256 256) (div-div-eq-div-mul n 65536 256) (omega arith)

-- the bytes of a state hold that state
bytes_state : (s : State) (rest : List ℕ) → Packed s → (state_of (record_bytes s ++ rest) ≡ s) × (drop 11 (record_bytes s ++ rest) ≡ rest) × (11 ≤ length (record_bytes s ++ rest))
bytes_state s rest h =
    let e = four s.arcs h.four in
    let z = of_z w32 s.operand in
    let op : signed (z / 16777216 % 256) (z / 65536 % 256) (z / 256 % 256) (z % 256) ≡ s.operand = ap (to_z w32) (quad_back z (Fits-of_z h.operand).fits) ∙ to_z-of_z h.operand in
    let built : State = record { item = s.item; code = s.code; operand = s.operand; arc_count = s.arc_count; arcs = get_or s.arcs 0 0 ∷ get_or s.arcs 1 0 ∷ get_or s.arcs 2 0 ∷ get_or s.arcs 3 0 ∷ [] } in
    let same : s ≡ built = ap (λ (xs : List ℕ). record { item = s.item; code = s.code; operand = s.operand; arc_count = s.arc_count; arcs = xs }) e in
    let done : (state_of (record_bytes built ++ rest) ≡ built) × (drop 11 (record_bytes built ++ rest) ≡ rest) × (11 ≤ length (record_bytes built ++ rest)) =
    (ap (λ (y : ℤ). record { item = s.item; code = s.code; operand = y; arc_count = s.arc_count; arcs = get_or s.arcs 0 0 ∷ get_or s.arcs 1 0 ∷ get_or s.arcs 2 0 ∷ get_or s.arcs 3 0 ∷ [] }) op, refl, omega arith) in
    subst (λ (x : State). (state_of (record_bytes x ++ rest) ≡ x) × (drop 11 (record_bytes x ++ rest) ≡ rest) × (11 ≤ length (record_bytes x ++ rest))) (sym same) done

pub record_complete : (items codes states end : ℕ) (s : State) (rest : List ℕ) → InRange items codes states s → StateRecord items codes states end (record_bytes s ++ rest) (Ok (s, rest))
record_complete items codes states end s rest h =
    let b = bytes_state s rest h.packed in
    let x = b.0 in
    let y = b.1 in
    sound b.2 (λ k. ranged_right items codes states (state_of (record_bytes s ++ rest)) (subst (InRange items codes states) (sym x) h) k) (cc)

-- ---- several parts of one form

pub several_sound : {X : Type 0} (P : Part X) (enc : X → List ℕ) (Fine : X → Type 0)
    → ((bs : List ℕ) (x : X) (rest : List ℕ) → Bytes bs → P bs (Ok (x, rest)) → (bs ≡ enc x ++ rest) × Fine x)
    → (k : ℕ) (bs : List ℕ) (xs : List X) (rest : List ℕ) → Bytes bs → Several P k bs (Ok (xs, rest)) → (bs ≡ flat_map enc xs ++ rest) × (length xs ≡ k) × All Fine xs
several_sound P enc Fine one zero bs xs rest h e =
    let v = value_same xs [] rest bs e in
    subst (λ ys. (bs ≡ flat_map enc ys ++ rest) × (length ys ≡ 0) × All Fine ys) (sym v) (sym (rest_same xs [] rest bs e), refl, tt)
several_sound P enc Fine one (suc k) bs xs rest h e =
    let o = several_open P k bs xs rest e in
    let a = one bs o.0 o.1 h o.3 in
    let b = several_sound P enc Fine one k o.1 o.2 rest (bytes_rest bs (enc o.0) o.1 a.0 h) o.4 in
    subst (λ ys. (bs ≡ flat_map enc ys ++ rest) × (length ys ≡ suc k) × All Fine ys) (sym o.5)
    (a.0 ∙ ap (λ (r : List ℕ). enc o.0 ++ r) b.0 ∙ sym (append_assoc (enc o.0) (flat_map enc o.2) rest), ap suc b.1, (a.1, b.2))

pub several_complete : {X : Type 0} (P : Part X) (enc : X → List ℕ) (Fine : X → Type 0)
    → ((x : X) (rest : List ℕ) → Fine x → P (enc x ++ rest) (Ok (x, rest)))
    → (xs : List X) (rest : List ℕ) → All Fine xs → Several P (length xs) (flat_map enc xs ++ rest) (Ok (xs, rest))
several_complete P enc Fine one [] rest h = refl
several_complete P enc Fine one (x ∷ xs) rest h =
    subst (λ (bs : List ℕ). Several P (suc (length xs)) bs (Ok (x ∷ xs, rest))) (sym (append_assoc (enc x) (flat_map enc xs) rest))
    (goes x (flat_map enc xs ++ rest) (one x (flat_map enc xs ++ rest) h.0) (goes xs rest (several_complete P enc Fine one xs rest h.1) refl))

-- ---- types

ways_sound : (end : ℕ) (states : List State) (bs : List ℕ) (xs : List State) (rest : List ℕ) → Ways end states bs (Ok (xs, rest)) → (xs ≡ states) × (rest ≡ bs) × Connected states
ways_sound end states bs xs rest (stray s k e) = absurd (ok_err (xs, rest) _ e)
ways_sound end states bs xs rest (reads.Ways.joined c e) = (value_same xs states rest bs e, rest_same xs states rest bs e, c)

pub type_sound : (items codes end : ℕ) (bs : List ℕ) (states : List State) (rest : List ℕ) → Bytes bs → TypePart items codes end bs (Ok (states, rest)) → (bs ≡ type_bytes states ++ rest) × FineType items codes states
type_sound items codes end bs states rest h p =
    let o = then_open (Range 32 end) (λ k. Then (Several (StateRecord items codes k end) k) (Ways end)) bs states rest p in
    let k = o.0 in
    let i = then_open (Several (StateRecord items codes k end) k) (Ways end) o.1 states rest o.3 in
    let c = range_sound 32 end bs k o.1 o.2 in
    let w = ways_sound end i.0 i.1 states rest i.3 in
    let s = several_sound (StateRecord items codes k end) record_bytes (InRange items codes k) (record_sound items codes k end) k o.1 i.0 i.1 (bytes_rest bs (k ∷ []) o.1 c.0 h) i.2 in
    let n : length i.0 ≡ k = s.1 in
    let at : bs ≡ type_bytes i.0 ++ rest = c.0 ∙ ap (λ (r : List ℕ). k ∷ r) s.0 ∙ ap (λ (r : List ℕ). k ∷ flat_map record_bytes i.0 ++ r) (sym w.1) ∙ ap (λ (m : ℕ). m ∷ flat_map record_bytes i.0 ++ rest) (sym n) in
    let fine : FineType items codes i.0 = record {
      some = omega arith;
      few = omega arith;
      ranged = λ x l. subst (λ (m : ℕ). InRange items codes m (get_or i.0 x nowhere)) (sym n) (All-get_or (InRange items codes k) i.0 x nowhere l s.2);
      connected = w.2;
    } in
    subst (λ (xs : List State). (bs ≡ type_bytes xs ++ rest) × FineType items codes xs) (sym w.0) (at, fine)

pub type_complete : (items codes end : ℕ) (states : List State) (rest : List ℕ) → FineType items codes states → TypePart items codes end (type_bytes states ++ rest) (Ok (states, rest))
type_complete items codes end states rest f =
    goes (length states) (flat_map record_bytes states ++ rest) (range_complete 32 end (length states) (flat_map record_bytes states ++ rest) f.some f.few)
    (goes states rest (several_complete (StateRecord items codes (length states) end) record_bytes (InRange items codes (length states)) (record_complete items codes (length states) end) states rest
    (All-from_get_or (InRange items codes (length states)) states nowhere f.ranged))
    (reads.Ways.joined f.connected refl))
