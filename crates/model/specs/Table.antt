-- The table of jobs: what one step of a job does, and what each call on the table answers and changes.
use Rattle.std.specs.Prelude.{◌≡◌, List, ◌⊎◌, ◌↔◌, Bool, true, false, cond, not, ◌&&◌, ℕ, ◌≤◌, ◌<◌, ℤ, length, set}
use Rattle.std.proofs.Math.Option.{Option, none, some}
use Rattle.std.proofs.Math.ListN.{get_elem?}
use Rattle.model.specs.Workload.{Workload, Above, Terminal, Unlockable, Named, LocalRoot, LocalChild, LocalLeaf, Takes}

-- A kind of item, whose values are of the type V.
pub record Kind (V : Type 0) : Type 0 where
  -- its codes are the numbers below this one
  pub codes : ℕ
  -- from a value, a code, an operand and a job's register to the new value and the new register
  pub act : V → ℕ → ℤ → ℤ → V × ℤ

-- A job's record.
pub record Job : Type 0 where
  pub type : ℕ
  pub state : ℕ
  -- it has done the work of its state
  pub has_worked : Bool
  -- the one number that it carries from work to work
  pub register : ℤ
  -- the items that it holds, and those that it ever locked
  pub held : ℕ → Bool
  pub ever_locked : ℕ → Bool
  -- the done set: the items that it will not need any more
  pub done : ℕ → Bool
  pub has_finished : Bool
  -- its begin awaits its collect or leave
  pub awaited : Bool

-- the item that the job's state names
abbrev pub item_of : Workload → Job → ℕ
item_of W J = W.item J.type J.state

-- Changes of sets: the set b is a without d, a with d, a with all of P.
abbrev pub Without : (ℕ → Bool) → ℕ → (ℕ → Bool) → Type 0
Without a d b = (b d ≡ false) × ((x : ℕ) → ¬ (x ≡ d) → b x ≡ a x)

abbrev pub With : (ℕ → Bool) → ℕ → (ℕ → Bool) → Type 0
With a d b = (b d ≡ true) × ((x : ℕ) → ¬ (x ≡ d) → b x ≡ a x)

abbrev pub WithAll : (ℕ → Bool) → (ℕ → Type 0) → (ℕ → Bool) → Type 0
WithAll a P b = (x : ℕ) → (b x ≡ true) ↔ ((a x ≡ true) ⊎ P x)

-- d is the lowest number of which P holds
abbrev pub Lowest : (ℕ → Type 0) → ℕ → Type 0
Lowest P d = P d × ((x : ℕ) → P x → d ≤ x)

-- A held item may go when it is done or not named by the type,
-- and each of its local children was ever locked or is a done local leaf.
pub record MayGo (W : Workload) (J : Job) (d : ℕ) : Type 0 where
  pub is_held : J.held d ≡ true
  pub unneeded : (J.done d ≡ true) ⊎ ¬ Named W J.type d
  pub passed
      : (c : ℕ) → LocalChild W J.type d c
      → (J.ever_locked c ≡ true) ⊎ (LocalLeaf W J.type c × (J.done c ≡ true))

-- The wanted item is the first never locked on the way from the local root to the state's item.
pub record Wanted (W : Workload) (J : Job) (d : ℕ) : Type 0 where
  pub root : ℕ
  pub is_root : LocalRoot W J.type root
  pub below_root : Above W root d
  pub on_the_way : Above W d (item_of W J)
  pub never_locked : J.ever_locked d ≡ false
  pub first : (x : ℕ) → Above W root x → Above W x d → ¬ (x ≡ d) → J.ever_locked x ≡ true

-- The work of the state s, from the values `old` and the register p to the values `new` and the register q:
-- the act's pair becomes the value of the state's item and the register.
pub record Works {V : Type 0} (W : Workload) (K : Kind V) (t s : ℕ) (old : List V) (p : ℤ) (new : List V) (q : ℤ) : Type 0 where
  pub found : V
  pub there : get_elem? old (W.item t s) ≡ some found
  pub value : new ≡ set old (W.item t s) (K.act found (W.code t s) (W.operand t s) p).0
  pub register : q ≡ (K.act found (W.code t s) (W.operand t s) p).1

-- The same, and where there is no such item nothing changes. The second case is for a store that does not fit the workload;
-- no calls lead to a table where a job meets it, since begin is refused there.
abbrev pub WorksIfThere : {V : Type 0} → Workload → Kind V → ℕ → ℕ → List V → ℤ → List V → ℤ → Type 0
WorksIfThere W K t s old p new q =
    Works W K t s old p new q ⊎ ((get_elem? old (W.item t s) ≡ none) × (new ≡ old) × (q ≡ p))

-- The job that begins, of the type t with the argument a.
abbrev pub new_job : ℕ → ℤ → Job
new_job t a =
    record {
      type = t;
      state = 0;
      has_worked = false;
      register = a;
      held = λ x. false;
      ever_locked = λ x. false;
      done = λ x. false;
      has_finished = false;
      awaited = true;
    }

-- The job J after a change. First: it holds the items h.
abbrev pub holding : Job → (ℕ → Bool) → Job
holding J h =
    record {
      type = J.type;
      state = J.state;
      has_worked = J.has_worked;
      register = J.register;
      held = h;
      ever_locked = J.ever_locked;
      done = J.done;
      has_finished = J.has_finished;
      awaited = J.awaited;
    }

-- it holds the items h, and has ever locked the items l
abbrev pub locking : Job → (ℕ → Bool) → (ℕ → Bool) → Job
locking J h l =
    record {
      type = J.type;
      state = J.state;
      has_worked = J.has_worked;
      register = J.register;
      held = h;
      ever_locked = l;
      done = J.done;
      has_finished = J.has_finished;
      awaited = J.awaited;
    }

-- it has worked in its state, and its register is p
abbrev pub with_register : Job → ℤ → Job
with_register J p =
    record {
      type = J.type;
      state = J.state;
      has_worked = true;
      register = p;
      held = J.held;
      ever_locked = J.ever_locked;
      done = J.done;
      has_finished = J.has_finished;
      awaited = J.awaited;
    }

-- it has come to the state s, and its done set is u
abbrev pub in_state : Job → ℕ → (ℕ → Bool) → Job
in_state J s u =
    record {
      type = J.type;
      state = s;
      has_worked = false;
      register = J.register;
      held = J.held;
      ever_locked = J.ever_locked;
      done = u;
      has_finished = J.has_finished;
      awaited = J.awaited;
    }

-- it is finished
abbrev pub ended : Job → Job
ended J =
    record {
      type = J.type;
      state = J.state;
      has_worked = J.has_worked;
      register = J.register;
      held = J.held;
      ever_locked = J.ever_locked;
      done = J.done;
      has_finished = true;
      awaited = J.awaited;
    }

-- its ticket was handed back by a leave
abbrev pub not_awaited : Job → Job
not_awaited J =
    record {
      type = J.type;
      state = J.state;
      has_worked = J.has_worked;
      register = J.register;
      held = J.held;
      ever_locked = J.ever_locked;
      done = J.done;
      has_finished = J.has_finished;
      awaited = false;
    }

-- What a step tells.
pub data Told : Type 0 where
  -- of an item
  released : ℕ → Told
  worked : ℕ → Told
  locked : ℕ → Told
  -- for an item, that the job at a place holds
  waiting : ℕ → ℕ → Told
  -- to a state
  gone : ℕ → Told
  finished : Told

-- One step of the job J over the store's values vs: what it tells, and the values and the job afterwards.
-- It does the first of these that applies. Holds q d says that the job at the place q holds the item d.
pub data Steps {V : Type 0} (W : Workload) (K : Kind V) (Holds : ℕ → ℕ → Type 0) (vs : List V) (J : Job)
    : Told → List V → Job → Type 0 where
  -- it releases the lowest held item that may go
  releases
      : (d : ℕ) (h : ℕ → Bool) → Lowest (MayGo W J) d → Without J.held d h
      → Steps W K Holds vs J (released d) vs (holding J h)
  -- not yet worked here, and the state's item held: it does the work of its state
  works
      : (new : List V) (p : ℤ) → ((x : ℕ) → ¬ MayGo W J x) → J.has_worked ≡ false → J.held (item_of W J) ≡ true
      → WorksIfThere W K J.type J.state vs J.register new p
      → Steps W K Holds vs J (worked (item_of W J)) new (with_register J p)
  -- not yet worked here: if no job holds the wanted item, it becomes held
  locks
      : (d : ℕ) (h l : ℕ → Bool) → ((x : ℕ) → ¬ MayGo W J x) → J.has_worked ≡ false → J.held (item_of W J) ≡ false
      → Wanted W J d → ((q : ℕ) → ¬ Holds q d) → With J.held d h → With J.ever_locked d l
      → Steps W K Holds vs J (locked d) vs (locking J h l)
  -- otherwise nothing changes: it waits
  waits
      : (d q : ℕ) → ((x : ℕ) → ¬ MayGo W J x) → J.has_worked ≡ false → J.held (item_of W J) ≡ false
      → Wanted W J d → Holds q d
      → Steps W K Holds vs J (waiting d q) vs J
  -- worked in a state with arcs: the register tells which one is taken, and the unlockable set of the new state is done
  goes
      : (s : ℕ) (u : ℕ → Bool) → ((x : ℕ) → ¬ MayGo W J x) → J.has_worked ≡ true
      → Takes W J.type J.state J.register s → WithAll J.done (Unlockable W J.type s) u
      → Steps W K Holds vs J (gone s) vs (in_state J s u)
  -- worked in a terminal state: the lowest held item is released
  closes
      : (d : ℕ) (h : ℕ → Bool) → ((x : ℕ) → ¬ MayGo W J x) → J.has_worked ≡ true → Terminal W J.type J.state
      → Lowest (λ x. J.held x ≡ true) d → Without J.held d h
      → Steps W K Holds vs J (released d) vs (holding J h)
  -- and with none held the job is finished
  finishes
      : ((x : ℕ) → ¬ MayGo W J x) → J.has_worked ≡ true → Terminal W J.type J.state → ((x : ℕ) → J.held x ≡ false)
      → Steps W K Holds vs J finished vs (ended J)

-- The table over a store whose values are the list `values`. Each of its places, the numbers below 16, has a job or none.
pub record Table (V : Type 0) : Type 0 where
  pub values : List V
  pub places : ℕ → Option Job

-- the job at the place q holds the item d
abbrev pub HoldsAt : {V : Type 0} → Table V → ℕ → ℕ → Type 0
HoldsAt m q d = (J : Job) × (m.places q ≡ some J) × (J.held d ≡ true)

-- the store has at least as many items, and its kind at least as many codes, as the workload
abbrev pub Fits : {V : Type 0} → Workload → Kind V → Table V → Type 0
Fits W K m = (W.items ≤ length m.values) × (W.codes ≤ K.codes)

-- no begin at the place p awaits its collect or leave
abbrev pub NoneAwaited : {V : Type 0} → Table V → ℕ → Type 0
NoneAwaited m p = (J : Job) → m.places p ≡ some J → J.awaited ≡ false

-- the table n has x at the place p, and every other place as m has it
pub record Placed {V : Type 0} (m : Table V) (p : ℕ) (x : Option Job) (n : Table V) : Type 0 where
  pub there : n.places p ≡ x
  pub elsewhere : (q : ℕ) → ¬ (q ≡ p) → n.places q ≡ m.places q

-- what stands at its place after a job's step: nothing, if the job is finished and nobody awaits it
abbrev pub seat : Job → Option Job
seat J = cond (J.has_finished && not J.awaited) none (some J)

-- A call on the table, at a place. A begin gives a ticket, which a collect or leave hands back.
-- Here a ticket is its place: it counts by that alone.
pub data Call : Type 0 where
  -- a job of a type, with an argument
  begin : ℕ → ℕ → ℤ → Call
  step : ℕ → Call
  collect : ℕ → Call
  leave : ℕ → Call

pub data Answer : Type 0 where
  -- with a number: 8 the store or its kind does not fit the workload, 10 no such place, 11 no such type, 12 the place is taken,
  -- 13 no unfinished job is there, 14 no begin there awaits its collect or leave, 15 the job is not finished
  refused : ℕ → Answer
  began : Answer
  told : Told → Answer
  -- the job's register
  collected : ℤ → Answer
  left : Answer

-- What each call on the table m answers, and the table afterwards. The tests are made in the order in which they stand.
pub data Moves {V : Type 0} (W : Workload) (K : Kind V) (m : Table V) : Call → Answer → Table V → Type 0 where
  begin_unfit : (p t : ℕ) (a : ℤ) → ¬ Fits W K m → Moves W K m (begin p t a) (refused 8) m
  begin_no_place : (p t : ℕ) (a : ℤ) → Fits W K m → ¬ (p < 16) → Moves W K m (begin p t a) (refused 10) m
  begin_no_type : (p t : ℕ) (a : ℤ) → Fits W K m → p < 16 → ¬ (t < W.types) → Moves W K m (begin p t a) (refused 11) m
  begin_taken
      : (p t : ℕ) (a : ℤ) (J : Job) → Fits W K m → p < 16 → t < W.types → m.places p ≡ some J
      → Moves W K m (begin p t a) (refused 12) m
  begins
      : (p t : ℕ) (a : ℤ) (n : Table V) → Fits W K m → p < 16 → t < W.types → m.places p ≡ none
      → n.values ≡ m.values → Placed m p (some (new_job t a)) n → Moves W K m (begin p t a) began n
  step_no_place : (p : ℕ) → ¬ (p < 16) → Moves W K m (step p) (refused 10) m
  step_no_job
      : (p : ℕ) → p < 16 → ((J : Job) → m.places p ≡ some J → J.has_finished ≡ true) → Moves W K m (step p) (refused 13) m
  steps
      : (p : ℕ) (J J' : Job) (a : Told) (n : Table V) → p < 16 → m.places p ≡ some J → J.has_finished ≡ false
      → Steps W K (HoldsAt m) m.values J a n.values J' → Placed m p (seat J') n → Moves W K m (step p) (told a) n
  collect_none : (p : ℕ) → NoneAwaited m p → Moves W K m (collect p) (refused 14) m
  collect_early
      : (p : ℕ) (J : Job) → m.places p ≡ some J → J.awaited ≡ true → J.has_finished ≡ false
      → Moves W K m (collect p) (refused 15) m
  collects
      : (p : ℕ) (J : Job) (n : Table V) → m.places p ≡ some J → J.awaited ≡ true → J.has_finished ≡ true
      → n.values ≡ m.values → Placed m p none n → Moves W K m (collect p) (collected J.register) n
  leave_none : (p : ℕ) → NoneAwaited m p → Moves W K m (leave p) (refused 14) m
  leaves_finished
      : (p : ℕ) (J : Job) (n : Table V) → m.places p ≡ some J → J.awaited ≡ true → J.has_finished ≡ true
      → n.values ≡ m.values → Placed m p none n → Moves W K m (leave p) left n
  leaves_unfinished
      : (p : ℕ) (J : Job) (n : Table V) → m.places p ≡ some J → J.awaited ≡ true → J.has_finished ≡ false
      → n.values ≡ m.values → Placed m p (some (not_awaited J)) n → Moves W K m (leave p) left n
