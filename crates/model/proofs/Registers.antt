-- Every accepted collect answered its job's register.
use mathlib.Core.Path.{◌≡◌, refl, sym, ◌∙◌, subst, ap}
use mathlib.Core.List.{List, [], ◌∷◌}
use mathlib.Core.Option.{Option, none, some}
use mathlib.Core.Bool.{true, false}
use Prim.Native.Nat.{ℕ, ◌≤◌, ◌<◌}
use native.Mathlib.Omega.{arith}
use lib.ListN.{get_elem?}
use Rattle.model.specs.Workload.{Workload}
use Rattle.model.specs.Table.{Kind, Job, Told, released, worked, locked, waiting, gone, finished, Table, Call, begin, step}
use Rattle.model.specs.Table.{collect, leave, Answer, refused, began, told, collected, left, Moves, begin_unfit, begin_no_place}
use Rattle.model.specs.Table.{begin_no_type, begin_taken, begins, step_no_place, step_no_job, steps, collect_none}
use Rattle.model.specs.Table.{collect_early, collects, leave_none, leaves_finished, leaves_unfinished}
use Rattle.model.specs.Journal.{Event, Journaled, Journal, rewrite, do_work, hear, hear_at, after_call, journal, RightRegister}
use Rattle.model.specs.Journal.{RightRegisters}
use Rattle.model.proofs.Job.{clash}
use Rattle.model.proofs.History.{History, HoldsGood, change_other}

-- the finished jobs of the journal b stand in the journal c as they are
record Firm {V : Type 0} (b c : Journal V) : Type 0 where
  more : b.count ≤ c.count
  same : (j : ℕ) → j < b.count → (b.job j).has_finished ≡ true → c.job j ≡ b.job j

module _ {V : Type 0} (W : Workload) (K : Kind V) where
  firm_self : (b : Journal V) → Firm b b
  firm_self b = record { more = omega arith; same = λ j i e. refl }

  firm_rewrite
      : (b : Journal V) (j : ℕ) (x : Journaled) (vs : List V) → (b.job j).has_finished ≡ false → Firm b (rewrite W K b j x vs)
  firm_rewrite b j x vs f =
      record {
        more = omega arith;
        same = λ k i e. change_other b.job j x k (λ q. clash (subst (λ (y : ℕ). (b.job y).has_finished ≡ true) q e) f);
      }

  firm_work
      : (b : Journal V) (j : ℕ) (x : Journaled) (o : Option V) → (b.job j).has_finished ≡ false → Firm b (do_work W K b j x o)
  firm_work b j x none f = firm_self b
  firm_work b j x (some v) f = firm_rewrite b j _ _ f

  firm_hear : (b : Journal V) (j : ℕ) (x : Journaled) (a : Told) → (b.job j).has_finished ≡ false → Firm b (hear W K b j x a)
  firm_hear b j x (released d) f = firm_self b
  firm_hear b j x (worked d) f = firm_work b j x (get_elem? b.values (W.item x.type x.state)) f
  firm_hear b j x (locked d) f = firm_self b
  firm_hear b j x (waiting d q) f = firm_self b
  firm_hear b j x (gone s) f = firm_rewrite b j _ _ f
  firm_hear b j x finished f = firm_rewrite b j _ _ f

  firm_register : (a b c : Journal V) → Firm b c → (e : Call) (x : Answer) → RightRegister a b e x → RightRegister a c e x
  firm_register a b c F e (refused n) r = tt
  firm_register a b c F e began r = tt
  firm_register a b c F e (told y) r = tt
  firm_register a b c F (begin p t z) (collected y) r = tt
  firm_register a b c F (step p) (collected y) r = tt
  firm_register a b c F (collect p) (collected y) r =
      let s = F.same r.job r.known r.ended in
      record {
        job = r.job;
        entered = r.entered;
        known = let i = r.known in let k = F.more in omega arith;
        ended = ap (λ (z : Journaled). z.has_finished) s ∙ r.ended;
        answered = ap (λ (z : Journaled). z.register) s ∙ r.answered;
      }
  firm_register a b c F (leave p) (collected y) r = tt
  firm_register a b c F e left r = tt

  firm_registers
      : (first : List V) (b c : Journal V) → Firm b c → (es : List Event) → RightRegisters W K first b es
      → RightRegisters W K first c es
  firm_registers first b c F [] r = tt
  firm_registers first b c F (e ∷ es) r =
      (firm_register (journal W K first es) b c F e.call e.answer r.0, firm_registers first b c F es r.1)

  module _ (first : List V) (b : Journal V) (m : Table V) (h : History) (H : HoldsGood W K first b m h) where
    journaled_unfinished
        : (j : ℕ) (J : Job) → j < b.count → h.jobs j ≡ J → J.has_finished ≡ false → (b.job j).has_finished ≡ false
    journaled_unfinished j J i e f = (H.agrees j i).has_finished ∙ ap (λ (I : Job). I.has_finished) e ∙ f

    firm_call : (c : Call) (a : Answer) (n : Table V) → Moves W K m c a n → Firm b (after_call W K b c a)
    firm_call _ _ _ (begin_unfit p t a i) = firm_self b
    firm_call _ _ _ (begin_no_place p t a i j) = firm_self b
    firm_call _ _ _ (begin_no_type p t a i j k) = firm_self b
    firm_call _ _ _ (begin_taken p t a J i j k l) = firm_self b
    firm_call _ _ _ (begins p t a n i j k l e P) =
        record { more = omega arith; same = λ k y z. change_other b.job b.count _ k (λ q. absurd (omega arith)) }
    firm_call _ _ _ (step_no_place p i) = firm_self b
    firm_call _ _ _ (step_no_job p i j) = firm_self b
    firm_call _ _ _ (steps p J J' a n i there f st P) =
        let s = H.seated p J there in
        subst (λ (o : Option ℕ). Firm b (hear_at W K b o a)) (sym s.1)
        (firm_hear b s.0 (b.job s.0) a (journaled_unfinished s.0 J (H.known p s.0 s.1) s.2 f))
    firm_call _ _ _ (collect_none p i) = firm_self b
    firm_call _ _ _ (collect_early p J i j k) = firm_self b
    firm_call _ _ _ (collects p J n there i f e P) = firm_self b
    firm_call _ _ _ (leave_none p i) = firm_self b
    firm_call _ _ _ (leaves_finished p J n there i f e P) = firm_self b
    firm_call _ _ _ (leaves_unfinished p J n there i f e P) = firm_self b

    -- the call itself
    new_register : (c : Call) (a : Answer) (n : Table V) → Moves W K m c a n → RightRegister b (after_call W K b c a) c a
    new_register _ _ _ (begin_unfit p t a i) = tt
    new_register _ _ _ (begin_no_place p t a i j) = tt
    new_register _ _ _ (begin_no_type p t a i j k) = tt
    new_register _ _ _ (begin_taken p t a J i j k l) = tt
    new_register _ _ _ (begins p t a n i j k l e P) = tt
    new_register _ _ _ (step_no_place p i) = tt
    new_register _ _ _ (step_no_job p i j) = tt
    new_register _ _ _ (steps p J J' a n i there f st P) = tt
    new_register _ _ _ (collect_none p i) = tt
    new_register _ _ _ (collect_early p J i j k) = tt
    new_register _ _ _ (collects p J n there i f e P) =
        let s = H.seated p J there in
        let k = H.known p s.0 s.1 in
        let a = H.agrees s.0 k in
        record {
          job = s.0;
          entered = s.1;
          known = k;
          ended = a.has_finished ∙ ap (λ (I : Job). I.has_finished) s.2 ∙ f;
          answered = a.register ∙ ap (λ (I : Job). I.register) s.2;
        }
    new_register _ _ _ (leave_none p i) = tt
    new_register _ _ _ (leaves_finished p J n there i f e P) = tt
    new_register _ _ _ (leaves_unfinished p J n there i f e P) = tt

    pub registers_call
        : (es : List Event) (c : Call) (a : Answer) (n : Table V) → b ≡ journal W K first es → Moves W K m c a n
        → RightRegisters W K first b es
        → RightRegister (journal W K first es) (after_call W K b c a) c a × RightRegisters W K first (after_call W K b c a) es
    registers_call es c a n q M r = (
      subst (λ (z : Journal V). RightRegister z (after_call W K b c a) c a) q (new_register c a n M),
      firm_registers first b (after_call W K b c a) (firm_call c a n M) es r,
    )
