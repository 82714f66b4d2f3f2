-- The two unlockable sets.
use Rattle.std.proofs.Common.{◌≡◌, ℕ, zero, suc, ◌<◌, ◌≤◌, [], ◌∷◌, get_or, refl, sym, subst, inl, inr, arith}
use Rattle.locking.specs.Lists.{Mem}
use Rattle.model.specs.Workload.{Arc, Way, stay, onward, Unreachable, Unlockable}
use Rattle.rules.specs.Lawful.{Lawful}
use Rattle.rules.specs.Rules.{Rooted}
use Rattle.rules.proofs.Fine.{FineType}
use Rattle.rules.proofs.Formed.{lawful_from}
use Rattle.examples.specs.Sets.{UnlockableSets, sets_parents, sets_types, sets_workload}
use Rattle.examples.proofs.Pair.{pair_only, pair_unlockable}
use Rattle.examples.proofs.Rows.{root_rooted, below_rooted, deeper_rooted, pair_fine, fork_fine}

rooted : (i : ℕ) → i < 4 → Rooted sets_parents i
rooted zero l = root_rooted (0 ∷ 0 ∷ 1 ∷ [])
rooted (suc zero) l = below_rooted (0 ∷ 0 ∷ 1 ∷ []) 1 (omega arith) refl
rooted (suc (suc zero)) l = below_rooted (0 ∷ 0 ∷ 1 ∷ []) 2 (omega arith) refl
rooted (suc (suc (suc zero))) l = deeper_rooted (0 ∷ 0 ∷ 1 ∷ []) 3 1 (omega arith) (omega arith) refl refl
rooted (suc (suc (suc (suc i)))) l = absurd (omega arith)

fine : (t : ℕ) → t < 2 → FineType 4 1 (get_or sets_types t [])
fine zero l = pair_fine 4 1 1 0 3 0 (omega arith) (omega arith) (omega arith) (omega arith)
fine (suc zero) l =
    fork_fine 4 1 1 0 2 0 3 0 (omega arith) (omega arith) (omega arith) (omega arith) (omega arith) (omega arith)
fine (suc (suc t)) l = absurd (omega arith)

lawful : Lawful sets_parents 1 sets_types
lawful =
    lawful_from sets_parents 1 sets_types (omega arith, omega arith) (omega arith, omega arith) (omega arith, omega arith)
    rooted fine

-- ---- the descent

-- its one arc leads from the first state to the second
descent_arc : (m s : ℕ) → Mem s (sets_workload.arcs 0 m) → (m ≡ 0) × (s ≡ 1)
descent_arc zero s (inl e) = (refl, e)
descent_arc zero s (inr e) = absurd e
descent_arc (suc zero) s e = absurd e
descent_arc (suc (suc m)) s e = absurd e

first_second : Arc sets_workload 0 0 1
first_second = (omega arith, inl refl)

descent_only : (d : ℕ) → Unlockable sets_workload 0 1 d → d ≡ 1
descent_only = pair_only sets_workload 0 first_second descent_arc

descent_unlockable : Unlockable sets_workload 0 1 1
descent_unlockable = pair_unlockable sets_workload 0 first_second descent_arc apart
  where
    apart : ◌≡◌ {A = ℕ} 3 1 → ⊥
    apart e = omega arith

-- ---- the detour

-- an arc leads to a later state
detour_up : (m s : ℕ) → Mem s (sets_workload.arcs 1 m) → (m < s) × (s < 3)
detour_up zero s (inl e) = omega arith
detour_up zero s (inr (inl e)) = omega arith
detour_up zero s (inr (inr e)) = absurd e
detour_up (suc zero) s (inl e) = omega arith
detour_up (suc zero) s (inr e) = absurd e
detour_up (suc (suc zero)) s e = absurd e
detour_up (suc (suc (suc m))) s e = absurd e

detour_rise : {a b : ℕ} → Way sets_workload 1 a b → a ≤ b
detour_rise (stay s) = omega arith
detour_rise (onward s m r a w) = let i = detour_rise w in let k = detour_up s m a.1 in omega arith

-- of its states only the first names the item 1, and only the second the item 2
names_one : (s : ℕ) → sets_workload.item 1 s ≡ 1 → s ≡ 0
names_one zero e = refl
names_one (suc zero) e = omega arith
names_one (suc (suc zero)) e = omega arith
names_one (suc (suc (suc s))) e = omega arith

names_two : (s : ℕ) → sets_workload.item 1 s ≡ 2 → s ≡ 1
names_two zero e = omega arith
names_two (suc zero) e = refl
names_two (suc (suc zero)) e = omega arith
names_two (suc (suc (suc s))) e = omega arith

second_last : Arc sets_workload 1 1 2
second_last = (omega arith, inl refl)

-- no state on a way from the second names the item 1
second_not_one : Unreachable sets_workload 1 1 1
second_not_one r w e = absurd (let i = detour_rise w in let k = names_one r e in omega arith)

detour_named : (r : ℕ) → r < 2 → (d : ℕ) → sets_workload.item 1 r ≡ d → Unlockable sets_workload 1 2 d → d ≡ 2
detour_named zero i d e u = absurd (u.not_before 1 second_last (subst (Unreachable sets_workload 1 1) e second_not_one))
detour_named (suc zero) i d e u = sym e
detour_named (suc (suc r)) i d e u = absurd (omega arith)

detour_only : (d : ℕ) → Unlockable sets_workload 1 2 d → d ≡ 2
detour_only d u =
    let n = u.named_before in
    let i = detour_rise n.3 in
    let k = (detour_up n.0 2 n.2.1).0 in
    detour_named n.1 (omega arith) d n.4 u

reaches_second : (m : ℕ) → Arc sets_workload 1 m 2 → ¬ Unreachable sets_workload 1 m 2
reaches_second zero a u = u 1 (onward 0 1 1 (omega arith, inl refl) (stay 1)) refl
reaches_second (suc zero) a u = u 1 (stay 1) refl
reaches_second (suc (suc m)) a u = let i = detour_up (suc (suc m)) 2 a.1 in absurd (omega arith)

detour_unlockable : Unlockable sets_workload 1 2 2
detour_unlockable =
    record {
      here = λ r w e. absurd (let i = detour_rise w in let k = names_two r e in omega arith);
      not_before = reaches_second;
      named_before = (1, 1, second_last, stay 1, refl);
    }

pub unlockable_sets_lem : UnlockableSets
unlockable_sets_lem =
    record {
      lawful = lawful;
      descends = λ d. (descent_only d, λ e. subst (Unlockable sets_workload 0 1) (sym e) descent_unlockable);
      returns = λ d. (detour_only d, λ e. subst (Unlockable sets_workload 1 2) (sym e) detour_unlockable);
    }
