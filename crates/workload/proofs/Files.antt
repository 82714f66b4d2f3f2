-- A file is read whole exactly where it is the bytes of a lawful workload and a note.
use Rattle.std.proofs.Common.{◌≡◌, ℕ, ◌+◌, ◌-◌, ◌*◌, ◌/◌, ◌%◌, ◌≤◌, List, [], ◌∷◌, ◌++◌, length, get_or, drop, Ok, Err, sym, refl, ap, ◌∙◌, subst, append_assoc, arith, length-append, length-drop}
use Rattle.std.proofs.lemmas.List.{drop_at}
use Rattle.std.proofs.ByRecursion.{All-get_or, All-from_get_or}
use Rattle.std.specs.List.{AllByRecursion as All, flat_map}
use Rattle.workload.specs.declared.fault.Fault.{Fault}
use Rattle.workload.specs.declared.read.Sizes.{Sizes}
use Rattle.workload.specs.declared.fault.Fault.TheVariants.{Missing}
use Rattle.rules.specs.declared.state.State.{State}
use Rattle.workload.specs.Encoding.{mark, version, pair, type_bytes, note_bytes, encoded}
use Rattle.rules.specs.Lawful.{Lawful}
use Rattle.rules.proofs.Fine.{FineType}
use Rattle.rules.proofs.Formed.{fine_of, lawful_from, rooted_of}
use Rattle.workload.specs.Reads as reads
use Rattle.workload.specs.Reads.{Answer, Part, Then, stops, goes, Several, Sign, Range, Parents, TypePart, Note, note_length, Header, File, Contents, Accepted, Refused, long, short, trailing, whole}
use Rattle.workload.proofs.Parts.{ok_err, value_same, rest_same, then_open}
use Rattle.workload.proofs.Once.{file_only}
use Rattle.workload.proofs.Encodes.{Bytes, bytes_rest, fronted, sign_sound, sign_complete, range_sound, range_complete, parents_sound, parents_complete, several_sound, several_complete, type_sound, type_complete}

note_sound : (end : ℕ) (bs note rest : List ℕ) → Bytes bs → Note end bs (Ok (note, rest)) → (bs ≡ note_bytes note) × (rest ≡ []) × (length note ≤ 1000)
note_sound end bs note rest h (reads.Note.missing l e) = absurd (ok_err (note, rest) (Missing end) e)
note_sound end bs note rest h (long l m e) = absurd (ok_err (note, rest) _ e)
note_sound end bs note rest h (short l m n e) = absurd (ok_err (note, rest) _ e)
note_sound end bs note rest h (trailing l m n e) = absurd (ok_err (note, rest) _ e)
note_sound end bs note rest h (whole l m e) =
    let v = value_same note (drop 2 bs) rest [] e in
    let t = fronted 2 0 bs (omega arith) in
    let n : length note ≡ get_or bs 0 0 * 256 + get_or bs 1 0 = omega (arith, ap length v, length-drop 2 bs) in
    let a : length note / 256 % 256 ≡ get_or bs 0 0 = omega (arith, h 0, h 1) in
    let b : length note % 256 ≡ get_or bs 1 0 = omega (arith, h 0, h 1) in
    (cc, rest_same note (drop 2 bs) rest [] e, omega arith)

note_complete : (end : ℕ) (note : List ℕ) → length note ≤ 1000 → Note end (note_bytes note) (Ok (note, []))
note_complete end note l = whole (omega arith) (omega arith) refl

record HeaderRead (bs : List ℕ) (h : Sizes) (rest : List ℕ) : Type 0 where
  pub bytes : bs ≡ mark ++ (version ++ (h.items ∷ h.types ∷ h.codes ∷ rest))
  pub items : (1 ≤ h.items) × (h.items ≤ 64)
  pub types : (1 ≤ h.types) × (h.types ≤ 8)
  pub codes : (1 ≤ h.codes) × (h.codes ≤ 255)

header_sound : (end : ℕ) (bs : List ℕ) (h : Sizes) (rest : List ℕ) → Header end bs (Ok (h, rest)) → HeaderRead bs h rest
header_sound end bs h rest p =
    let a = then_open _ _ bs h rest p in
    let b = then_open _ _ a.1 h rest a.3 in
    let c = then_open _ _ b.1 h rest b.3 in
    let d = then_open _ _ c.1 h rest c.3 in
    let e = then_open _ _ d.1 h rest d.3 in
    let made : Sizes = record { items = c.0; types = d.0; codes = e.0 } in
    let m = sign_sound mark end bs a.0 a.1 a.2 in
    let v = sign_sound version end a.1 b.0 b.1 b.2 in
    let n = range_sound 64 end b.1 c.0 c.1 c.2 in
    let t = range_sound 8 end c.1 d.0 d.1 d.2 in
    let k = range_sound 255 end d.1 e.0 e.1 e.2 in
    let r = rest_same h made rest e.1 e.3 in
    let g : HeaderRead bs made rest = record {
      bytes = m ∙ ap (λ (x : List ℕ). mark ++ x) (v ∙ ap (λ (x : List ℕ). version ++ x) (n.0 ∙ ap (λ (x : List ℕ). c.0 ∷ x) (t.0 ∙ ap (λ (x : List ℕ). d.0 ∷ x) (k.0 ∙ ap (λ (x : List ℕ). e.0 ∷ x) (sym r)))));
      items = (n.1, n.2);
      types = (t.1, t.2);
      codes = (k.1, k.2);
    } in
    subst (λ (x : Sizes). HeaderRead bs x rest) (sym (value_same h made rest e.1 e.3)) g

pub header_complete : (end n t c : ℕ) (rest : List ℕ) → (1 ≤ n) × (n ≤ 64) → (1 ≤ t) × (t ≤ 8) → (1 ≤ c) × (c ≤ 255) → Header end (mark ++ (version ++ (n ∷ t ∷ c ∷ rest))) (Ok (record { items = n; types = t; codes = c }, rest))
header_complete end n t c rest hn ht hc =
    goes mark (version ++ (n ∷ t ∷ c ∷ rest)) (sign_complete mark end _) (goes version (n ∷ t ∷ c ∷ rest) (sign_complete version end _)
    (goes n (t ∷ c ∷ rest) (range_complete 64 end n _ hn.0 hn.1) (goes t (c ∷ rest) (range_complete 8 end t _ ht.0 ht.1) (goes c rest (range_complete 255 end c _ hc.0 hc.1) refl))))

pub file_sound : (end : ℕ) (bs : List ℕ) (x : Contents) (rest : List ℕ) → Bytes bs → File end bs (Ok (x, rest)) → Accepted bs x
file_sound end bs x rest h p =
    let a = then_open _ _ bs x rest p in
    let n = a.0.items in
    let c = a.0.codes in
    let b = then_open _ _ a.1 x rest a.3 in
    let d = then_open _ _ b.1 x rest b.3 in
    let e = then_open _ _ d.1 x rest d.3 in
    let made : Contents = record { parents = b.0; codes = c; types = d.0; note = e.0 } in
    let s = header_sound end bs a.0 a.1 a.2 in
    let h1 : Bytes a.1 = bytes_rest bs (mark ++ (version ++ (n ∷ a.0.types ∷ c ∷ []))) a.1 s.bytes h in
    let r = parents_sound n end a.1 b.0 b.1 b.2 in
    let h2 : Bytes b.1 = bytes_rest a.1 b.0 b.1 r.0 h1 in
    let t = several_sound (TypePart n c end) type_bytes (FineType n c) (type_sound n c end) a.0.types b.1 d.0 d.1 h2 d.2 in
    let h3 : Bytes d.1 = bytes_rest b.1 (flat_map type_bytes d.0) d.1 t.0 h2 in
    let o = note_sound end d.1 e.0 e.1 h3 e.2 in
    let at : bs ≡ encoded b.0 c d.0 e.0 =
    s.bytes ∙ ap (λ (y : List ℕ). mark ++ (version ++ (n ∷ a.0.types ∷ c ∷ y))) (r.0 ∙ ap (λ (y : List ℕ). b.0 ++ y) (t.0 ∙ ap (λ (y : List ℕ). flat_map type_bytes d.0 ++ y) o.0))
    ∙ ap (λ (m : ℕ). mark ++ (version ++ (m ∷ a.0.types ∷ c ∷ (b.0 ++ (flat_map type_bytes d.0 ++ note_bytes e.0))))) (sym r.1)
    ∙ ap (λ (m : ℕ). mark ++ (version ++ (length b.0 ∷ m ∷ c ∷ (b.0 ++ (flat_map type_bytes d.0 ++ note_bytes e.0))))) (sym t.1) in
    let fine : All (FineType (length b.0) c) d.0 = subst (λ (m : ℕ). All (FineType m c) d.0) (sym r.1) t.2 in
    let lawful : Lawful b.0 c d.0 =
    lawful_from b.0 c d.0 (omega (arith, s.items.0, r.1), omega (arith, s.items.1, r.1)) s.codes
    (omega (arith, s.types.0, t.1), omega (arith, s.types.1, t.1)) r.2
    (λ i l. All-get_or (FineType (length b.0) c) d.0 i [] l fine) in
    subst (Accepted bs) (sym (value_same x made rest e.1 e.3)) (at, lawful, o.2)

pub file_complete : (end : ℕ) (bs : List ℕ) (x : Contents) → Accepted bs x → File end bs (Ok (x, []))
file_complete end bs x h =
    let l = h.1 in
    let ps = x.parents in
    let c = x.codes in
    let ts = x.types in
    let fine : All (FineType (length ps) c) ts = All-from_get_or (FineType (length ps) c) ts [] (λ i b. fine_of ps c ts l i b) in
    let f : File end (encoded ps c ts x.note) (Ok (x, [])) =
    goes (record { items = length ps; types = length ts; codes = c }) (ps ++ (flat_map type_bytes ts ++ note_bytes x.note)) (header_complete end (length ps) (length ts) c _ l.items l.types l.codes)
    (goes ps (flat_map type_bytes ts ++ note_bytes x.note) (parents_complete end ps _ (rooted_of ps c ts l))
    (goes ts (note_bytes x.note) (several_complete (TypePart (length ps) c end) type_bytes (FineType (length ps) c) (type_complete (length ps) c end) ts (note_bytes x.note) fine)
    (goes x.note [] (note_complete end x.note h.2) refl))) in
    subst (λ (ys : List ℕ). File end ys (Ok (x, []))) (sym h.0) f

pub accepted_once : (bs : List ℕ) (x y : Contents) → Accepted bs x → Accepted bs y → x ≡ y
accepted_once bs x y p q = value_same x y [] [] (file_only (length bs) bs (Ok (x, [])) (Ok (y, [])) (file_complete (length bs) bs x p) (file_complete (length bs) bs y q))

pub accepted_refused : (bs : List ℕ) (x : Contents) (f : Fault) → Accepted bs x → Refused bs f → ⊥
accepted_refused bs x f p q = ok_err (x, []) f (file_only (length bs) bs (Ok (x, [])) (Err f) (file_complete (length bs) bs x p) q)

-- a file ends with its note
note_at_end : (parents : List ℕ) (count : ℕ) (types : List (List State)) (note : List ℕ) → (front : List ℕ) × (encoded parents count types note ≡ front ++ note)
note_at_end parents count types note = (
  mark ++ (version ++ (length parents ∷ length types ∷ count ∷ (parents ++ (flat_map type_bytes types ++ pair (length note))))),
  ap (λ (y : List ℕ). mark ++ (version ++ (length parents ∷ length types ∷ count ∷ y)))
      (ap (λ (y : List ℕ). parents ++ y) (sym (append_assoc (flat_map type_bytes types) (pair (length note)) note)) ∙ sym (append_assoc parents (flat_map type_bytes types ++ pair (length note)) note)),
)

note_dropped : (bs front note : List ℕ) → bs ≡ front ++ note → (length note ≤ length bs) × (drop (length bs - length note) bs ≡ note)
note_dropped bs front note e =
    let n = ap length e ∙ length-append front note in
    let m : length front ≡ length bs - length note = omega arith in
    (omega arith, ap (λ (y : List ℕ). drop (length bs - length note) y) e ∙ drop_at front note (length bs - length note) m)

-- the note of an accepted file stands at its end
pub note_spans : (bs : List ℕ) (x : Contents) → Accepted bs x → (length x.note ≤ length bs) × (drop (length bs - length x.note) bs ≡ x.note)
note_spans bs x a = let f = note_at_end x.parents x.codes x.types x.note in note_dropped bs f.0 x.note (a.0 ∙ f.1)
