-- Bytes that are put into a buffer one part after the other.
use Rattle.std.proofs.Common.{◌≡◌, ℕ, ◌+◌, ◌<◌, ◌≤◌, List, [], ◌∷◌, ◌++◌, length, get_or, take, drop, ℤ, sym, ap, ◌∙◌, subst, append_assoc, arith, length-append, to_z-of_z, w32, to_z, of_z}
use Rattle.rules.specs.declared.state.State.{State}
use Rattle.rules.specs.Lawful.{Packed}
use Rattle.std.specs.List.{flat_map}
use Rattle.std.proofs.lemmas.Grind.{common_steps, flat_map-append}
use Rattle.std.proofs.lemmas.Slice.{drop-append-drop}
use Rattle.std.proofs.lemmas.List.{take_at, drop_at, take_more, length-take-le, append-nil}
use Rattle.std.proofs.lemmas.List.Folds.{length-flat_map-take}
use Rattle.workload.specs.Encoding.{quad, record_bytes}
use Rattle.workload.proofs.Encodes.{four}
use Rattle.writing.specs.declared.put.Writer.{Writer}
use Rattle.writing.specs.Files.{Stands}
use Rattle.writing.specs.Puts.{Adds, HasRoom, Puts}

-- a part, and the next one from the place after it
puts_more
    : (old : List ℕ) (at : ℕ) (xs mid : List ℕ) (next : ℕ) (ys new : List ℕ) (end : ℕ) → next ≤ length old
    → Puts old at xs mid next → Puts mid next ys new end → Puts old at (xs ++ ys) new end
puts_more old at xs mid next ys new end l p q =
    let f = take at old ++ xs in
    let m : mid ≡ f ++ drop next old = p.wrote ∙ sym (append_assoc (take at old) xs (drop next old)) in
    let k : length f ≡ next = omega (arith, p.place, length-append (take at old) xs, length-take-le at old (omega (arith, p.place))) in
    let t : take next mid ≡ f = ap (take next) m ∙ take_at f (drop next old) next k in
    let e : drop end mid ≡ drop end old = ap (drop end) m ∙ drop-append-drop next old f end (omega (arith, q.place)) k in
    record { place = omega (arith, p.place, q.place, length-append xs ys); wrote = rw (q.wrote, t, e) (simp append_assoc) }

puts_long : (old : List ℕ) (at : ℕ) (bytes new : List ℕ) (end : ℕ) → end ≤ length old → Puts old at bytes new end → length new ≡ length old
puts_long old at bytes new end l p = grind (arith, common_steps)

-- a part that is put, where there is room for it and for what follows
module _ (u v : Writer) (xs ys : List ℕ) (room : HasRoom u (xs ++ ys)) (a : Adds u xs v) where
  within : v.at ≤ length u.buffer.now
  within = omega (arith, a.puts.place, length-append xs ys)

  -- there is room for what follows
  pub room_after : HasRoom v ys
  room_after = omega (arith, within, puts_long u.buffer.now u.at xs v.buffer.now v.at within a.puts, a.puts.place, length-append xs ys)

  pub adds_more : (w : Writer) → Adds v ys w → Adds u (xs ++ ys) w
  adds_more w b = record { same = b.same ∙ a.same; puts = puts_more u.buffer.now u.at xs v.buffer.now v.at ys w.buffer.now w.at within a.puts b.puts }

-- four parts that are put one after the other
pub adds_four
    : {u v w x y : Writer} (zs bs cs ds : List ℕ) → HasRoom u (zs ++ (bs ++ (cs ++ ds)))
    → Adds u zs v → Adds v bs w → Adds w cs x → Adds x ds y → Adds u (zs ++ (bs ++ (cs ++ ds))) y
adds_four {u = u} {v = v} {w = w} {x = x} {y = y} zs bs cs ds room a b c d =
    let r = room_after u v zs (bs ++ (cs ++ ds)) room a in
    let s = room_after v w bs (cs ++ ds) r b in
    adds_more u v zs (bs ++ (cs ++ ds)) room a y (adds_more v w bs (cs ++ ds) r b y (adds_more w x cs ds s c y d))

-- what was put from the front on stands there
pub adds_stand
    : {w last : Writer} {file new : List ℕ} → w.at ≡ 0 → length file ≤ length w.buffer.now → Adds w file last → new ≡ last.buffer.now
    → Stands file w.buffer.now new last.at
adds_stand {w = w} {last = last} {file = file} {new = new} z room a e =
    let old = w.buffer.now in
    let n = last.at in
    let s : length file ≡ n = omega (arith, a.puts.place) in
    let m : new ≡ file ++ drop n old = e ∙ a.puts.wrote ∙ ap (λ (k : ℕ). take k old ++ (file ++ drop n old)) z in
    record {
      size = sym s;
      room = omega (arith, a.puts.place);
      front = ap (take n) m ∙ take_at file (drop n old) n s;
      later = ap (drop n) m ∙ drop_at file (drop n old) n s;
    }

-- the elements of a list that are put so far, and the next one's bytes
module _ {X : Type 0} (enc : X → List ℕ) (xs : List X) (i : ℕ) (d : X) (bytes : List ℕ) (h : i < length xs) (e : bytes ≡ enc (get_or xs i d)) where
  flat_map_next : flat_map enc (take (i + 1) xs) ≡ flat_map enc (take i xs) ++ bytes
  flat_map_next = ap (flat_map enc) (take_more xs i d h) ∙ flat_map-append enc (take i xs) (get_or xs i d ∷ []) ∙ ap (λ (l : List ℕ). flat_map enc (take i xs) ++ l) (append-nil (enc (get_or xs i d)) ∙ sym e)

  pub length_next : length (flat_map enc (take (i + 1) xs)) ≡ length (flat_map enc (take i xs)) + length bytes
  length_next = ap length flat_map_next ∙ length-append (flat_map enc (take i xs)) bytes

  module _ (u v : Writer) (room : HasRoom u (flat_map enc xs)) (a : Adds u (flat_map enc (take i xs)) v) where
    room_both : HasRoom u (flat_map enc (take i xs) ++ bytes)
    room_both = omega (arith, length-append (flat_map enc (take i xs)) bytes, ap length e, length-flat_map-take enc xs i d h)

    pub room_next : HasRoom v bytes
    room_next = room_after u v (flat_map enc (take i xs)) bytes room_both a

    pub adds_next : (w : Writer) → Adds v bytes w → Adds u (flat_map enc (take (i + 1) xs)) w
    adds_next w b = subst (λ (l : List ℕ). Adds u l w) (sym flat_map_next) (adds_more u v (flat_map enc (take i xs)) bytes room_both a w b)

-- the eleven bytes that are put for a state are those of its record
pub record_list : (s : State) (r : List ℕ) → Packed s → r ≡ quad (of_z w32 (to_z w32 (of_z w32 s.operand)))
    → s.item ∷ s.code ∷ get_or r 0 0 ∷ get_or r 1 0 ∷ get_or r 2 0 ∷ get_or r 3 0 ∷ s.arc_count ∷ get_or s.arcs 0 0 ∷ get_or s.arcs 1 0 ∷ get_or s.arcs 2 0 ∷ get_or s.arcs 3 0 ∷ [] ≡ record_bytes s
record_list s r h e =
    let q = e ∙ ap (λ (z : ℤ). quad (of_z w32 z)) (to_z-of_z h.operand) in
    let a = four s.arcs h.four in
    ap (λ (l : List ℕ). s.item ∷ s.code ∷ get_or l 0 0 ∷ get_or l 1 0 ∷ get_or l 2 0 ∷ get_or l 3 0 ∷ s.arc_count ∷ get_or s.arcs 0 0 ∷ get_or s.arcs 1 0 ∷ get_or s.arcs 2 0 ∷ get_or s.arcs 3 0 ∷ []) q
    ∙ ap (λ (l : List ℕ). s.item ∷ s.code ∷ quad (of_z w32 s.operand) ++ s.arc_count ∷ l) (sym a)
