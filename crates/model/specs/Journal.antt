-- The journal of calls and answers, the run of a job alone, and what the table promises of every list of calls.
use Rattle.std.specs.Prelude.{◌≡◌, List, [], ◌∷◌, ◌++◌, Bool, true, false, cond, ℕ, suc, ◌<◌, ℤ, pos, eqb, set}
use Rattle.std.proofs.Math.Option.{Option, none, some}
use Rattle.std.proofs.Math.ListN.{get_elem?}
use Rattle.locking.specs.Lists.{Mem, Distinct}
use Rattle.model.specs.Workload.{Workload, WellFormed, Terminal, Takes}
use Rattle.model.specs.Table.{Kind, Works, Table, Told, released, worked, locked, waiting, gone, finished}
use Rattle.model.specs.Table.{Call, begin, step, collect, leave, Answer, refused, began, told, collected, left, Moves}

-- A call and its answer.
pub record Event : Type 0 where
  pub call : Call
  pub answer : Answer

-- a new table over the first values
pub record New {V : Type 0} (first : List V) (m : Table V) : Type 0 where
  pub values : m.values ≡ first
  pub empty : (p : ℕ) → m.places p ≡ none

-- A new table came to m by a list of calls with their answers. Here and below, the latest call of a list stands first.
pub data Reached {V : Type 0} (W : Workload) (K : Kind V) (first : List V) : List Event → Table V → Type 0 where
  new : (m : Table V) → New first m → Reached W K first [] m
  next
      : (es : List Event) (m n : Table V) (c : Call) (a : Answer) → Reached W K first es m → Moves W K m c a n
      → Reached W K first (record { call = c; answer = a } ∷ es) n

-- One work: its item, code and operand, and the register before it.
pub record Work : Type 0 where
  pub item : ℕ
  pub code : ℕ
  pub operand : ℤ
  pub before : ℤ

-- the work of a state, with a register
abbrev pub work_of : Workload → ℕ → ℕ → ℤ → Work
work_of W t s p = record { item = W.item t s; code = W.code t s; operand = W.operand t s; before = p }

-- A job as the journal has it.
pub record Journaled : Type 0 where
  pub type : ℕ
  pub argument : ℤ
  pub state : ℕ
  pub register : ℤ
  pub has_finished : Bool
  -- in the order in which they were done
  pub works : List Work

-- The journal tells from the calls and answers alone what the jobs did and what the values must be.
-- Its jobs are numbered in the order in which they were entered.
pub record Journal (V : Type 0) : Type 0 where
  -- the jobs are the numbers below this one
  pub count : ℕ
  pub job : ℕ → Journaled
  -- the last job entered at a place
  pub last_at : ℕ → Option ℕ
  pub values : List V

-- f, with x at the number j
abbrev pub change : {A : Type 0} → (ℕ → A) → ℕ → A → ℕ → A
change f j x k = cond (eqb k j) x (f k)

-- stands for the jobs that are not yet entered
abbrev pub blank : Journaled
blank = record { type = 0; argument = pos 0; state = 0; register = pos 0; has_finished = false; works = [] }

-- the journal that starts with no job and the first values
abbrev pub new_journal : {V : Type 0} → List V → Journal V
new_journal first = record { count = 0; job = λ j. blank; last_at = λ p. none; values = first }

module _ {V : Type 0} (W : Workload) (K : Kind V) where
  -- an accepted begin enters an unfinished job at its place
  abbrev pub enter : Journal V → ℕ → ℕ → ℤ → Journal V
  enter b p t a =
      record {
        count = suc b.count;
        job =
            change b.job b.count
            (record { type = t; argument = a; state = 0; register = a; has_finished = false; works = [] });
        last_at = change b.last_at p (some b.count);
        values = b.values;
      }

  -- the job j becomes x, and the values vs
  abbrev pub rewrite : Journal V → ℕ → Journaled → List V → Journal V
  rewrite b j x vs = record { count = b.count; job = change b.job j x; last_at = b.last_at; values = vs }

  -- the job j, which is x and whose state's item has the value v, does its state's work
  abbrev pub do_work : Journal V → ℕ → Journaled → Option V → Journal V
  do_work b j x none = b
  do_work b j x (some v) =
      let s = x.state in
      let t = x.type in
      let r = K.act v (W.code t s) (W.operand t s) x.register in
      rewrite b j
      (record {
        type = t;
        argument = x.argument;
        state = s;
        register = r.1;
        has_finished = x.has_finished;
        works = x.works ++ (work_of W t s x.register ∷ []);
      })
      (set b.values (W.item t s) r.0)

  -- what a step tells goes to the job j, which is x
  abbrev pub hear : Journal V → ℕ → Journaled → Told → Journal V
  hear b j x (released d) = b
  hear b j x (worked d) = do_work b j x (get_elem? b.values (W.item x.type x.state))
  hear b j x (locked d) = b
  hear b j x (waiting d q) = b
  hear b j x (gone s) =
      rewrite b j
      (record {
        type = x.type;
        argument = x.argument;
        state = s;
        register = x.register;
        has_finished = x.has_finished;
        works = x.works;
      })
      b.values
  hear b j x finished =
      rewrite b j
      (record {
        type = x.type;
        argument = x.argument;
        state = x.state;
        register = x.register;
        has_finished = true;
        works = x.works;
      })
      b.values

  -- if there is a job
  abbrev pub hear_at : Journal V → Option ℕ → Told → Journal V
  hear_at b none a = b
  hear_at b (some j) a = hear b j (b.job j) a

  -- The journal after a call and its answer. Only an accepted begin and what a step tells change it.
  abbrev pub after_begin : Journal V → ℕ → ℕ → ℤ → Answer → Journal V
  after_begin b p t a (refused n) = b
  after_begin b p t a began = enter b p t a
  after_begin b p t a (told x) = b
  after_begin b p t a (collected x) = b
  after_begin b p t a left = b

  abbrev pub after_step : Journal V → ℕ → Answer → Journal V
  after_step b p (refused n) = b
  after_step b p began = b
  after_step b p (told x) = hear_at b (b.last_at p) x
  after_step b p (collected x) = b
  after_step b p left = b

  abbrev pub after_call : Journal V → Call → Answer → Journal V
  after_call b (begin p t a) x = after_begin b p t a x
  after_call b (step p) x = after_step b p x
  after_call b (collect p) x = b
  after_call b (leave p) x = b

  -- The journal of a list of calls and answers. These, the workload, the kind and the first values are all that it is given:
  -- it cannot look at the table, so that what the promise says of it is said of what the caller saw.
  abbrev pub journal : List V → List Event → Journal V
  journal first [] = new_journal first
  journal first (e ∷ es) = after_call (journal first es) e.call e.answer

-- A job of the type t, run alone: from a state, values and a register, by its works, to the values and the register at its end.
-- It locks nothing, and it stops: a run is a proof of finite length.
pub data Alone {V : Type 0} (W : Workload) (K : Kind V) (t : ℕ) : ℕ → List V → ℤ → List Work → List V → ℤ → Type 0 where
  -- it does its state's work, and stops if that state is terminal
  stops
      : (s : ℕ) (vs vs' : List V) (p p' : ℤ) → Works W K t s vs p vs' p' → Terminal W t s
      → Alone W K t s vs p (work_of W t s p ∷ []) vs' p'
  -- otherwise it takes the arc that its register tells
  goes_on
      : (s r : ℕ) (vs vs' vs'' : List V) (p p' p'' : ℤ) (ws : List Work) → Works W K t s vs p vs' p' → Takes W t s p' r
      → Alone W K t r vs' p' ws vs'' p'' → Alone W K t s vs p (work_of W t s p ∷ ws) vs'' p''

-- The jobs of a list, each with the type and argument that the journal has, run alone one after another:
-- each does the works and ends with the register that the journal has for it.
pub data OneByOne {V : Type 0} (W : Workload) (K : Kind V) (b : Journal V) : List ℕ → List V → List V → Type 0 where
  none_left : (vs : List V) → OneByOne W K b [] vs vs
  then
      : (j : ℕ) (js : List ℕ) (vs vs' vs'' : List V)
      → Alone W K (b.job j).type 0 vs (b.job j).argument (b.job j).works vs' (b.job j).register
      → OneByOne W K b js vs' vs'' → OneByOne W K b (j ∷ js) vs vs''

-- the order has all jobs of the journal, each once
pub record EachOnce {V : Type 0} (b : Journal V) (order : List ℕ) : Type 0 where
  pub distinct : Distinct order
  pub whole : (j : ℕ) → j < b.count → Mem j order
  pub only : (j : ℕ) → Mem j order → j < b.count

-- a step that goes on is neither refused nor answered with waiting
abbrev pub TellsGoingOn : Told → Type 0
TellsGoingOn (released d) = Unit {0}
TellsGoingOn (worked d) = Unit {0}
TellsGoingOn (locked d) = Unit {0}
TellsGoingOn (waiting d q) = ⊥
TellsGoingOn (gone s) = Unit {0}
TellsGoingOn finished = Unit {0}

abbrev pub GoesOn : Answer → Type 0
GoesOn (refused n) = ⊥
GoesOn began = ⊥
GoesOn (told a) = TellsGoingOn a
GoesOn (collected x) = ⊥
GoesOn left = ⊥

-- An unfinished job of the journal, and its place: a step there, asked next, goes on, whatever it answers.
pub record FreeToMove {V : Type 0} (W : Workload) (K : Kind V) (b : Journal V) (m : Table V) : Type 0 where
  pub place : ℕ
  pub job : ℕ
  pub is_there : b.last_at place ≡ some job
  pub known : job < b.count
  pub unfinished : (b.job job).has_finished ≡ false
  pub moves : (a : Answer) (n : Table V) → Moves W K m (step place) a n → GoesOn a

-- A collect at the place p, before which the journal was a, answered x. This is the register of the last job entered there,
-- which is finished, as the later journal b has it.
pub record GaveRegister {V : Type 0} (a b : Journal V) (p : ℕ) (x : ℤ) : Type 0 where
  pub job : ℕ
  pub entered : a.last_at p ≡ some job
  pub known : job < b.count
  pub ended : (b.job job).has_finished ≡ true
  pub answered : (b.job job).register ≡ x

-- of a call and its answer: it is asked only of an accepted collect
abbrev pub RightRegister : {V : Type 0} → Journal V → Journal V → Call → Answer → Type 0
RightRegister a b c (refused n) = Unit {0}
RightRegister a b c began = Unit {0}
RightRegister a b c (told x) = Unit {0}
RightRegister a b (begin p t y) (collected x) = Unit {0}
RightRegister a b (step p) (collected x) = Unit {0}
RightRegister a b (collect p) (collected x) = GaveRegister a b p x
RightRegister a b (leave p) (collected x) = Unit {0}
RightRegister a b c left = Unit {0}

-- of every call of the list, by the registers of the journal b
abbrev pub RightRegisters : {V : Type 0} → Workload → Kind V → List V → Journal V → List Event → Type 0
RightRegisters W K first b [] = Unit {0}
RightRegisters W K first b (e ∷ es) =
    RightRegister (journal W K first es) b e.call e.answer × RightRegisters W K first b es

-- What holds of the calls and answers es by which a new table over the first values came to m.
pub record Promise {V : Type 0} (W : Workload) (K : Kind V) (first : List V) (es : List Event) (m : Table V) : Type 0 where
  -- the next call, whatever it is, has an answer, and one alone
  pub answers : (c : Call) → (a : Answer) × (n : Table V) × Moves W K m c a n
  pub one_answer
      : (c : Call) (a a' : Answer) (n n' : Table V) → Moves W K m c a n → Moves W K m c a' n' → (a ≡ a') × (n ≡ n')
  -- the journal has the store's values
  pub same_values : (journal W K first es).values ≡ m.values
  -- when no job is unfinished, the jobs, run alone one after another in some serial order from the first values,
  -- do the works that they did, and leave the store's present values and every job's register
  pub as_if_alone
      : ((j : ℕ) → j < (journal W K first es).count → ((journal W K first es).job j).has_finished ≡ true)
      → (order : List ℕ) × EachOnce (journal W K first es) order × OneByOne W K (journal W K first es) order first m.values
  -- when a job is unfinished, some unfinished job can move
  pub never_stuck
      : (j : ℕ) → j < (journal W K first es).count → ((journal W K first es).job j).has_finished ≡ false
      → FreeToMove W K (journal W K first es) m
  -- every accepted collect answered its job's register
  pub right_registers : RightRegisters W K first (journal W K first es) es

-- The theorem. Whatever the workload, the kind of item and the first values: after every list of calls the promise stands.
abbrev pub TableStands : Type 0 → Type 0
TableStands V =
    (W : Workload) → WellFormed W → (K : Kind V) (first : List V) (es : List Event) (m : Table V)
    → Reached W K first es m → Promise W K first es m

-- A run alone has one course: from the same state, values and register it does the same works and comes to the same end.
abbrev pub RunsOneWay : Type 0 → Type 0
RunsOneWay V =
    (W : Workload) (K : Kind V) (t s : ℕ) (vs : List V) (p : ℤ) (ws ws' : List Work) (end end' : List V) (q q' : ℤ)
    → Alone W K t s vs p ws end q → Alone W K t s vs p ws' end' q' → (ws ≡ ws') × (end ≡ end') × (q ≡ q')
