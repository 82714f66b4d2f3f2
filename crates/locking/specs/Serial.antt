-- The log of what jobs did to items, and the serial log, in which one job after the other does all that it did.
use Rattle.std.specs.Prelude.{◌≡◌, List, [], ◌∷◌, ◌++◌, ◌⊎◌, Bool, cond, ℕ, eqb}
use Rattle.locking.specs.Lists.{Mem, Before, Distinct}

-- One entry of the log. Its operation is what the job did to the item, and its stamp the time.
pub record Entry (P : Type 0) : Type 0 where
  pub stamp : ℕ
  pub job : ℕ
  pub item : ℕ
  pub operation : P

-- what passes a test, in its order
abbrev pub keep : {A : Type 0} → (A → Bool) → List A → List A
keep p [] = []
keep p (x ∷ xs) = cond (p x) (x ∷ keep p xs) (keep p xs)

module _ {P : Type 0} where
  -- the entries on the item d
  abbrev pub on_item : ℕ → List (Entry P) → List (Entry P)
  on_item d = keep (λ (e : Entry P). eqb e.item d)

  -- the entries of the job j
  abbrev pub of_job : ℕ → List (Entry P) → List (Entry P)
  of_job j = keep (λ (e : Entry P). eqb e.job j)

  -- what stands before the first entry with the stamp s
  abbrev pub until : ℕ → List (Entry P) → List (Entry P)
  until s [] = []
  until s (e ∷ l) = cond (eqb e.stamp s) [] (e ∷ until s l)

  -- the serial log: all that the first job of the order did, then all that the second did, and so on
  abbrev pub serial : List ℕ → List (Entry P) → List (Entry P)
  serial [] l = []
  serial (j ∷ js) l = of_job j l ++ serial js l

  -- The order of the jobs agrees with the log.
  pub record Agreeing (ord : List ℕ) (log : List (Entry P)) : Type 0 where
    pub distinct : Distinct ord
    -- each job of the log stands in the order
    pub known : (e : Entry P) → Mem e log → Mem e.job ord
    -- no two entries have one stamp
    pub stamped : (e f : Entry P) → Mem e log → Mem f log → e.stamp ≡ f.stamp → e ≡ f
    -- two jobs that meet at an item stand in the order in which the log has them there
    pub agrees : (e f : Entry P) → Before e f log → e.item ≡ f.item → (e.job ≡ f.job) ⊎ Before e.job f.job ord

  -- Two logs that no item and no job can tell apart.
  pub record Alike (a b : List (Entry P)) : Type 0 where
    -- they have the same entries
    pub there : (e : Entry P) → Mem e b → Mem e a
    pub back : (e : Entry P) → Mem e a → Mem e b
    -- each item has the same list of entries
    pub items : (d : ℕ) → on_item d a ≡ on_item d b
    -- each job has the same list of entries
    pub jobs : (j : ℕ) → of_job j a ≡ of_job j b
    -- before each entry stands the same list of entries on its item
    pub prior : (e : Entry P) → Mem e b → on_item e.item (until e.stamp a) ≡ on_item e.item (until e.stamp b)
    -- before each entry stands the same list of entries of its job
    pub done : (e : Entry P) → Mem e b → of_job e.job (until e.stamp a) ≡ of_job e.job (until e.stamp b)

-- An operation acts on the value of its item: `act` takes the old value and the operation to the new value.
module _ {P V : Type 0} (act : V → P → V) where
  -- the values s, with v at the item d
  abbrev pub write : (ℕ → V) → ℕ → V → ℕ → V
  write s d v x = cond (eqb d x) v (s x)

  -- the value of each item after the log, from the values s
  abbrev pub after : (ℕ → V) → List (Entry P) → ℕ → V
  after s [] = s
  after s (e ∷ l) = after (write s e.item (act (s e.item) e.operation)) l

  -- Two logs of the same effect.
  pub record EqualEffect (s : ℕ → V) (a b : List (Entry P)) : Type 0 where
    -- each item has the same value at the end
    pub end : (d : ℕ) → after s a d ≡ after s b d
    -- each entry finds the same value at its item
    pub sees : (e : Entry P) → Mem e b → after s (until e.stamp a) e.item ≡ after s (until e.stamp b) e.item

-- The serial log, in an order that agrees with the log, is alike to the log. P is the type of the operations.
abbrev pub SerialLog : Type 0 → Type 0
SerialLog P = (ord : List ℕ) (log : List (Entry P)) → Agreeing ord log → Alike (serial ord log) log

-- And it has the same effect, whatever the values are, of a type V, and however an operation acts on them.
abbrev pub SerialEffect : Type 0 → Type 0 → Type 0
SerialEffect P V =
    (act : V → P → V) (s : ℕ → V) (ord : List ℕ) (log : List (Entry P))
    → Agreeing ord log → EqualEffect act s (serial ord log) log
