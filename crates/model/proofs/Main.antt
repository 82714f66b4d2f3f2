-- After every list of calls the promise stands.
use mathlib.Core.Path.{◌≡◌, refl, sym, ◌∙◌, subst}
use mathlib.Core.List.{List}
use mathlib.Core.Logic.{inl, inr}
use mathlib.Core.Option.{Option}
use mathlib.Core.Bool.{Bool, true, false}
use Prim.Native.Nat.{ℕ, ◌<◌}
use native.Mathlib.Omega.{arith}
use lib.ListN.{get_elem?}
use Rattle.locking.specs.Lists.{Mem}
use Rattle.locking.specs.Serial.{Entry, of_job, serial}
use Rattle.locking.specs.Serializable.{Logged, Serializable}
use Rattle.locking.proofs.Lists.{before_either}
use Rattle.locking.proofs.Serializable.{tree_serial}
use Rattle.model.specs.Workload.{Workload, WellFormed, Terminal}
use Rattle.model.specs.Table.{Kind, Table}
use Rattle.model.specs.Journal.{Event, Journal, journal, OneByOne, EachOnce, RightRegisters, Promise, Reached, new, next}
use Rattle.model.specs.Journal.{TableStands}
use Rattle.model.proofs.Alone.{Operation, effect, PathOf, Seen, AllSeen, Stand, Ran, run_all, list_same}
use Rattle.model.proofs.History.{History, HoldsGood, none_some}
use Rattle.model.proofs.Calls.{new_history, new_holds, call_holds}
use Rattle.model.proofs.Registers.{registers_call}
use Rattle.model.proofs.Answered.{Room, room_call, always_answers}
use Rattle.model.proofs.Once.{one_move}
use Rattle.model.proofs.Stuck.{run_of, tree_locked, never_stuck}

module _ {V : Type 0} (W : Workload) (F : WellFormed W) (K : Kind V) (first : List V) where
  module _ (b : Journal V) (m : Table V) (h : History) (H : HoldsGood W K first b m h) where
    logged : Logged b.count (run_of W F h) h.log
    unfolding run_of
    logged =
        record {
          rising = H.written.rising;
          known = H.written.known;
          locked = H.written.locked;
          within = H.written.within;
          released = H.written.released;
        }

    stamped : (e f : Entry Operation) → Mem e h.log → Mem f h.log → e.stamp ≡ f.stamp → e ≡ f
    stamped e f i k q = elim (before_either e f h.log i k) [
      | inl r ↦ r
      | inr (inl r) ↦ absurd (let y : e.stamp < f.stamp = H.written.rising e f r in omega arith)
      | inr (inr r) ↦ absurd (let y : f.stamp < e.stamp = H.written.rising f e r in omega arith)
    ]

    -- a finished job has gone its way to a terminal state
    ran : (j : ℕ) → j < b.count → (b.job j).has_finished ≡ true → Ran W K first b h.log j
    ran j i f =
        let a = H.agrees j i in
        let c = ((H.good j i).at_end (sym a.has_finished ∙ f)).0 in
        record {
          end_state = (b.job j).state;
          terminal =
              subst (λ (t : ℕ). Terminal W t (b.job j).state) (sym a.type)
              (subst (λ (s : ℕ). Terminal W (h.jobs j).type s) (sym a.state) c.1);
          path =
              subst (λ (w : Bool). PathOf W (b.job j).type 0 false (b.job j).argument (of_job j h.log)
              (b.job j).state w (b.job j).register)
              c.0 a.path;
          works = a.works;
        }

    -- the serial log of `locking` is a list of runs alone
    as_if_alone
        : ((j : ℕ) → j < b.count → (b.job j).has_finished ≡ true)
        → (order : List ℕ) × EachOnce b order × OneByOne W K b order first m.values
    as_if_alone all = (
      order,
      record { distinct = z.order.distinct; whole = z.order.whole; only = z.order.only },
      subst (OneByOne W K b order first)
          (list_same r.0 m.values (λ d. r.1.1 d ∙ (z.effect (effect K) (get_elem? first)).end d ∙ sym (H.stand d)))
          r.1.0,
    )
      where
        s : (ord : List ℕ) × Serializable (Option V) b.count (run_of W F h) h.log ord
        s = tree_serial Operation (Option V) b.count (run_of W F h) h.log (tree_locked W F K first b m h H) logged

        order : List ℕ
        order = s.0

        z : Serializable (Option V) b.count (run_of W F h) h.log order
        z = s.1

        see : AllSeen W K first (serial order h.log)
        see e i =
            let k = z.alike.back e i in
            subst (λ (o : Option V). Seen K o e) (sym ((z.effect (effect K) (get_elem? first)).sees e k)) (H.seen e k)

        r : (final : List V) × (OneByOne W K b order first final × Stand W K first final (serial order h.log))
        r =
            run_all W K first b h.log (serial order h.log) see z.alike.back H.written.rising stamped order refl
            z.order.distinct (λ j i. ran j (z.order.only j i) (all j (z.order.only j i)))

  -- what holds, the registers and the store's room, after every list of calls
  reached_holds
      : (es : List Event) (m : Table V) → Reached W K first es m
      → (h : History)
      × (HoldsGood W K first (journal W K first es) m h × (RightRegisters W K first (journal W K first es) es × Room W m))
  reached_holds _ _ (new m n) =
      (new_history, (new_holds W F K first m n, (tt, λ p J e. absurd (none_some (sym (n.empty p) ∙ e)))))
  reached_holds _ _ (next es m n c a r M) =
      let i = reached_holds es m r in
      let g = call_holds W F K first (journal W K first es) m i.0 i.1.0 i.1.1.1 c a n M in (
        g.0,
        (
          g.1,
          (
            registers_call W K first (journal W K first es) m i.0 i.1.0 es c a n refl M i.1.1.0,
            room_call W K m c a n M i.1.1.1,
          ),
        ),
      )

  promise : (es : List Event) (m : Table V) → Reached W K first es m → Promise W K first es m
  promise es m r =
      let i = reached_holds es m r in
      record {
        answers = always_answers W F K first (journal W K first es) m i.0 i.1.0 i.1.1.1;
        one_answer = one_move W F K first (journal W K first es) m i.0 i.1.0;
        same_values = i.1.0.values;
        as_if_alone = as_if_alone (journal W K first es) m i.0 i.1.0;
        never_stuck = never_stuck W F K first (journal W K first es) m i.0 i.1.0;
        right_registers = i.1.1.0;
      }

pub table_stands_lem : (V : Type 0) → TableStands V
table_stands_lem V W F K first es m r = promise W F K first es m r
