-- What reading a workload file gives: each part either its value and the bytes that follow it, or the first fault
-- in the order of the fields. `end` is the length of the file and the bytes at hand are its last ones, so that they
-- begin at the place `end` less their number.
use Rattle.std.specs.Prelude.{◌≡◌, ℕ, zero, suc, ◌+◌, ◌-◌, ◌*◌, ◌<◌, ◌≤◌, ◌⊎◌, List, [], ◌∷◌, ◌++◌, length, take, drop, Ok, Err, Result, ◌≢◌, slice_index}
use Rattle.workload.specs.declared.fault.Fault.{Fault}
use Rattle.workload.specs.declared.fault.Fault.TheVariants.{Missing, Mark, Count, Tree, Record, Stray, Tail}
use Rattle.rules.specs.declared.state.State.{State}
use Rattle.rules.specs.Lawful.{Lawful}
use Rattle.rules.specs.Rules.{Connected, Lowest, Placed, Rooted}
use Rattle.workload.specs.declared.read.Sizes.{Sizes}
use Rattle.workload.specs.Encoding.{mark, version, encoded}
use Rattle.workload.specs.Format.{WrongByte, state_of}

abbrev pub Answer : Type 0 → Type 0
Answer X = Result (X × List ℕ) Fault

-- a part of a file says which bytes have which answer
abbrev pub Part : Type 0 → Type 1
Part X = List ℕ → Answer X → Type 0

-- nothing more is read, and x is what was
abbrev pub Done : {X : Type 0} → X → Part X
Done x bs a = a ≡ Ok (x, bs)

-- one part and then the next, which may depend on the first; a fault in the first is the fault of both
pub data Then {X Y : Type 0} (P : Part X) (Q : X → Part Y) (bs : List ℕ) (a : Answer Y) : Type 0 where
  stops : (f : Fault) → P bs (Err f) → a ≡ Err f → Then P Q bs a
  goes : (x : X) (rest : List ℕ) → P bs (Ok (x, rest)) → Q x rest a → Then P Q bs a

-- k parts of one form
abbrev pub Several : {X : Type 0} → Part X → ℕ → Part (List X)
Several P zero = Done []
Several P (suc k) = Then P (λ x. Then (Several P k) (λ xs. Done (x ∷ xs)))

-- fixed bytes: the mark or the version
pub data Sign (sign : List ℕ) (end : ℕ) (bs : List ℕ) (a : Answer (List ℕ)) : Type 0 where
  missing : length bs < length sign → a ≡ Err (Missing end) → Sign sign end bs a
  other
      : length sign ≤ length bs → (take (length sign) bs ≢ sign) → a ≡ Err (Mark (end - length bs))
      → Sign sign end bs a
  right
      : length sign ≤ length bs → take (length sign) bs ≡ sign → a ≡ Ok (sign, drop (length sign) bs)
      → Sign sign end bs a

-- a count byte, from 1 to high
pub data Range (high end : ℕ) (bs : List ℕ) (a : Answer ℕ) : Type 0 where
  missing : length bs < 1 → a ≡ Err (Missing end) → Range high end bs a
  outside
      : 1 ≤ length bs → (slice_index bs 0 < 1 ⊎ high < slice_index bs 0) → a ≡ Err (Count (end - length bs))
      → Range high end bs a
  inside
      : 1 ≤ length bs → 1 ≤ slice_index bs 0 → slice_index bs 0 ≤ high → a ≡ Ok (slice_index bs 0, drop 1 bs)
      → Range high end bs a

-- the parents of n items: an item that is not rooted is told at its own byte
pub data Parents (n end : ℕ) (bs : List ℕ) (a : Answer (List ℕ)) : Type 0 where
  missing : length bs < n → a ≡ Err (Missing end) → Parents n end bs a
  broken
      : (i : ℕ) → n ≤ length bs → Lowest (Rooted (take n bs)) n i → a ≡ Err (Tree (end - length bs + i))
      → Parents n end bs a
  tree
      : n ≤ length bs → ((i : ℕ) → i < n → Rooted (take n bs) i) → a ≡ Ok (take n bs, drop n bs)
      → Parents n end bs a

-- a state's record: its first wrong byte is told
pub data StateRecord (items codes states end : ℕ) (bs : List ℕ) (a : Answer State) : Type 0 where
  missing : length bs < 11 → a ≡ Err (Missing end) → StateRecord items codes states end bs a
  wrong
      : (k : ℕ) → 11 ≤ length bs → WrongByte items codes states (state_of bs) k
      → ((q : ℕ) → q < k → WrongByte items codes states (state_of bs) q → ⊥) → a ≡ Err (Record (end - length bs + k))
      → StateRecord items codes states end bs a
  sound
      : 11 ≤ length bs → ((k : ℕ) → WrongByte items codes states (state_of bs) k → ⊥) → a ≡ Ok (state_of bs, drop 11 bs)
      → StateRecord items codes states end bs a

-- the states of a type, once their records are read and the bytes after them are at hand:
-- the lowest that is not placed is told at the first byte of its record
pub data Ways (end : ℕ) (states : List State) (bs : List ℕ) (a : Answer (List State)) : Type 0 where
  stray
      : (s : ℕ) → Lowest (Placed states) (length states) s → a ≡ Err (Stray (end - length bs - 11 * (length states - s)))
      → Ways end states bs a
  joined : Connected states → a ≡ Ok (states, bs) → Ways end states bs a

-- a type: its number of states, their records, and then how they hang together
abbrev pub TypePart : (items codes end : ℕ) → Part (List State)
TypePart items codes end = Then (Range 32 end) (λ k. Then (Several (StateRecord items codes k end) k) (Ways end))

-- the length of the note
abbrev pub note_length : List ℕ → ℕ
note_length bs = slice_index bs 0 * 256 + slice_index bs 1

-- the note, which ends the file
pub data Note (end : ℕ) (bs : List ℕ) (a : Answer (List ℕ)) : Type 0 where
  missing : length bs < 2 → a ≡ Err (Missing end) → Note end bs a
  long : 2 ≤ length bs → 1000 < note_length bs → a ≡ Err (Tail (end - length bs)) → Note end bs a
  short : 2 ≤ length bs → note_length bs ≤ 1000 → length bs < 2 + note_length bs → a ≡ Err (Missing end) → Note end bs a
  trailing
      : 2 ≤ length bs → note_length bs ≤ 1000 → 2 + note_length bs < length bs
      → a ≡ Err (Tail (end - length bs + (2 + note_length bs))) → Note end bs a
  whole : note_length bs ≤ 1000 → length bs ≡ 2 + note_length bs → a ≡ Ok (drop 2 bs, []) → Note end bs a

-- what a file holds
pub record Contents : Type 0 where
  pub parents : List ℕ
  pub codes : ℕ
  pub types : List (List State)
  pub note : List ℕ

abbrev pub Header : ℕ → Part Sizes
Header end =
    Then (Sign mark end) (λ _. Then (Sign version end) (λ _.
    Then (Range 64 end) (λ n. Then (Range 8 end) (λ t. Then (Range 255 end) (λ c.
    Done (record { items = n; types = t; codes = c }))))))

-- the whole file, field by field
abbrev pub File : ℕ → Part Contents
File end =
    Then (Header end) (λ h. Then (Parents h.items end) (λ parents.
    Then (Several (TypePart h.items h.codes end) h.types) (λ types.
    Then (Note end) (λ note. Done (record { parents = parents; codes = h.codes; types = types; note = note })))))

-- the bytes are those of a lawful workload and a note of at most 1,000 bytes
abbrev pub Accepted : List ℕ → Contents → Type 0
Accepted bs x =
    (bs ≡ encoded x.parents x.codes x.types x.note) × Lawful x.parents x.codes x.types
    × (length x.note ≤ 1000)

-- f is the first fault of the file
abbrev pub Refused : List ℕ → Fault → Type 0
Refused bs f = File (length bs) bs (Err f)

-- What holds of every file.
pub record FileLaws : Type 0 where
  -- it does not hold two workloads or notes, have two first faults, or both
  pub one_contents : (bs : List ℕ) (x y : Contents) → Accepted bs x → Accepted bs y → x ≡ y
  pub one_fault : (bs : List ℕ) (f g : Fault) → Refused bs f → Refused bs g → f ≡ g
  pub not_both : (bs : List ℕ) (x : Contents) (f : Fault) → Accepted bs x → Refused bs f → ⊥
  -- cut short anywhere, an accepted file misses a field
  pub cut_short : (bs : List ℕ) (x : Contents) (k : ℕ) → Accepted bs x → k < length bs → Refused (take k bs) (Missing k)
  -- going on, it is refused at the first byte too many
  pub goes_past : (bs : List ℕ) (x : Contents) (b : ℕ) (more : List ℕ) → Accepted bs x → Refused (bs ++ b ∷ more) (Tail (length bs))
