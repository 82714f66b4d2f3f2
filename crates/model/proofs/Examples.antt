-- The small workloads keep the rules, and have the unlockable items that they should have.
use mathlib.Core.Path.{◌≡◌, refl, sym, ◌∙◌, subst, ap}
use mathlib.Core.Logic.{inl, inr}
use Prim.Native.Nat.{ℕ, zero, suc, ◌≤◌, ◌<◌}
use native.Mathlib.Omega.{arith}
use native.Mathlib.Decide.{ℕ_discrete}
use Rattle.locking.specs.Lists.{Mem}
use Rattle.model.specs.Workload.{Above, self, over, Arc, Way, stay, onward, WellFormed, Unreachable, Unlockable}
use Rattle.model.specs.Examples.{start, fork_arcs, fork, descent_item, descent_arcs, descent, ExamplesStand}

-- in these two trees the top is right above every other item
flat_start : (d : ℕ) → d < 1 → Above start 0 d
flat_start d i = let e : 0 ≡ d = omega arith in subst (Above start 0) e self

flat_fork : (d : ℕ) → Above fork 0 d
flat_fork d = elim (ℕ_discrete 0 d) [ yes e ↦ subst (Above fork 0) e self | no n ↦ over d (λ e. n (sym e)) self ]

start_formed : WellFormed start
start_formed =
    record {
      top_item = omega arith;
      up_item = λ d i n. omega arith;
      tree = flat_start;
      first_state = λ t i. omega arith;
      names_item = λ t s i k. omega arith;
      names_code = λ t s i k. omega arith;
      leads = λ t m s i a. absurd a.1;
      reached = λ t s i k. way t s k;
      ending = λ t s i k. (s, stay s, refl);
    }
  where
    way : (t s : ℕ) → s < 1 → Way start t 0 s
    way t s k = let e : 0 ≡ s = omega arith in subst (Way start t 0) e (stay 0)

-- an arc leads to a later state
fork_up : (m s : ℕ) → Mem s (fork_arcs m) → (m < s) × (s < 3)
fork_up zero s (inl e) = omega arith
fork_up zero s (inr (inl e)) = omega arith
fork_up zero s (inr (inr e)) = absurd e
fork_up (suc zero) s (inl e) = omega arith
fork_up (suc zero) s (inr e) = absurd e
fork_up (suc (suc m)) s e = absurd e

fork_rise : {t a b : ℕ} → Way fork t a b → a ≤ b
fork_rise (stay s) = omega arith
fork_rise (onward s m r a w) = let i = fork_rise w in let k = fork_up s m a.1 in omega arith

module _ (t : ℕ) where
  first_second : Arc fork t 0 1
  first_second = (omega arith, inl refl)

  first_last : Arc fork t 0 2
  first_last = (omega arith, inr (inl refl))

  second_last : Arc fork t 1 2
  second_last = (omega arith, inl refl)

  to : (s : ℕ) → s < 3 → Way fork t 0 s
  to zero i = stay 0
  to (suc zero) i = onward 0 1 1 first_second (stay 1)
  to (suc (suc zero)) i = onward 0 2 2 first_last (stay 2)
  to (suc (suc (suc s))) i = absurd (omega arith)

  end : (s : ℕ) → s < 3 → Way fork t s 2
  end zero i = onward 0 2 2 first_last (stay 2)
  end (suc zero) i = onward 1 2 2 second_last (stay 2)
  end (suc (suc zero)) i = stay 2
  end (suc (suc (suc s))) i = absurd (omega arith)

fork_formed : WellFormed fork
fork_formed =
    record {
      top_item = omega arith;
      up_item = λ d i n. omega arith;
      tree = λ d i. flat_fork d;
      first_state = λ t i. omega arith;
      names_item = λ t s i k. omega arith;
      names_code = λ t s i k. omega arith;
      leads = λ t m s i a. (fork_up m s a.1).1;
      reached = λ t s i k. to t s k;
      ending = λ t s i k. (2, end t s k, refl);
    }

-- no state on a way from the second names the first item
second_not_first : Unreachable fork 0 1 1
second_not_first r w e = absurd (let i = fork_rise w in omega arith)

only_second : (d : ℕ) → Unlockable fork 0 2 d → d ≡ 2
only_second d u =
    let n = u.named_before in
    let r = n.1 in
    let e : suc r ≡ d = n.4 in
    let i : r ≤ n.0 = fork_rise n.3 in
    let k : n.0 < 2 = (fork_up n.0 2 n.2.1).0 in
    elim (ℕ_discrete d 1) [
      | yes q ↦ absurd (u.not_before 1 (second_last 0) (subst (λ (x : ℕ). Unreachable fork 0 1 x) (sym q) second_not_first))
      | no q ↦ omega arith
    ]

reaches_second : (m : ℕ) → Arc fork 0 m 2 → ¬ Unreachable fork 0 m 2
reaches_second zero a u = u 1 (onward 0 1 1 (first_second 0) (stay 1)) refl
reaches_second (suc zero) a u = u 1 (stay 1) refl
reaches_second (suc (suc m)) a u = a.1

second_unlockable : Unlockable fork 0 2 2
second_unlockable =
    record {
      here = λ r w e. absurd (let i = fork_rise w in omega arith);
      not_before = reaches_second;
      named_before = (1, 1, second_last 0, stay 1, refl);
    }

descent_tree : (d : ℕ) → d < 4 → Above descent 0 d
descent_tree zero i = self
descent_tree (suc zero) i = over 1 (λ e. absurd (omega arith)) self
descent_tree (suc (suc zero)) i = over 2 (λ e. absurd (omega arith)) self
descent_tree (suc (suc (suc zero))) i = over 3 (λ e. absurd (omega arith)) (over 1 (λ e. absurd (omega arith)) self)
descent_tree (suc (suc (suc (suc d)))) i = absurd (omega arith)

descent_up_item : (d : ℕ) → d < 4 → descent.up d < 4
descent_up_item zero i = omega arith
descent_up_item (suc zero) i = omega arith
descent_up_item (suc (suc zero)) i = omega arith
descent_up_item (suc (suc (suc d))) i = omega arith

descent_names : (s : ℕ) → descent_item s < 4
descent_names zero = omega arith
descent_names (suc s) = omega arith

-- the one arc leads from the first state to the second
descent_arc : (m s : ℕ) → Mem s (descent_arcs m) → (m ≡ 0) × (s ≡ 1)
descent_arc zero s (inl e) = (refl, e)
descent_arc zero s (inr e) = absurd e
descent_arc (suc m) s e = absurd e

down : (t : ℕ) → Way descent t 0 1
down t = onward 0 1 1 (omega arith, inl refl) (stay 1)

descent_formed : WellFormed descent
descent_formed =
    record {
      top_item = omega arith;
      up_item = λ d i n. descent_up_item d i;
      tree = descent_tree;
      first_state = λ t i. omega arith;
      names_item = λ t s i k. descent_names s;
      names_code = λ t s i k. omega arith;
      leads = λ t m s i a. let e = (descent_arc m s a.1).1 in omega arith;
      reached = λ t s i k. to_state t s k;
      ending = λ t s i k. (1, to_end t s k, refl);
    }
  where
    to_state : (t s : ℕ) → s < 2 → Way descent t 0 s
    to_state t zero k = stay 0
    to_state t (suc zero) k = down t
    to_state t (suc (suc s)) k = absurd (omega arith)

    to_end : (t s : ℕ) → s < 2 → Way descent t s 1
    to_end t zero k = down t
    to_end t (suc zero) k = stay 1
    to_end t (suc (suc s)) k = absurd (omega arith)

-- a way from the second state ends there
from_second : {a b : ℕ} → Way descent 0 a b → a ≡ 1 → b ≡ 1
from_second (stay s) e = e
from_second (onward s m r a w) e = absurd (let z = (descent_arc s m a.1).0 in omega arith)

-- a way to the first state begins there
to_first : {a b : ℕ} → Way descent 0 a b → b ≡ 0 → a ≡ 0
to_first (stay s) e = e
to_first (onward s m r a w) e = (descent_arc s m a.1).0

descent_only : (d : ℕ) → Unlockable descent 0 1 d → d ≡ 1
descent_only d u =
    let n = u.named_before in
    let r = to_first n.3 (descent_arc n.0 1 n.2.1).0 in
    sym n.4 ∙ ap descent_item r

descent_unlockable : Unlockable descent 0 1 1
descent_unlockable =
    record {
      here = λ r w e. absurd (apart (sym (ap descent_item (from_second w refl)) ∙ e));
      not_before = λ m a u. u m (stay m) (ap descent_item (descent_arc m 1 a.1).0);
      named_before = (0, 0, (omega arith, inl refl), stay 0, refl);
    }
  where
    apart : ◌≡◌ {A = ℕ} 3 1 → ⊥
    apart e = omega arith

pub examples_stand_lem : ExamplesStand
examples_stand_lem =
    record {
      start_formed = start_formed;
      fork_formed = fork_formed;
      descent_formed = descent_formed;
      fork_last = λ d. (only_second d, λ e. subst (Unlockable fork 0 2) (sym e) second_unlockable);
      descent_second = λ d. (descent_only d, λ e. subst (Unlockable descent 0 1) (sym e) descent_unlockable);
    }
