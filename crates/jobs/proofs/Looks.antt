-- The arc that a register takes.
use Rattle.std.proofs.Common.{◌≡◌, ℕ, zero, suc, ◌<◌, ◌≤◌, List, [], ◌∷◌, length, get_or, take, ℤ, pos, negsuc, sym, refl, ap, ◌∙◌, subst, arith, length-take}
use mathlib.Core.Option.{some}
use lib.ListN.{get_elem?}
use Rattle.model.specs.Workload.{Workload, Takes, choice}

element : (c : ℕ) (xs : List ℕ) (i : ℕ) → i < c → i < length xs → get_elem? (take c xs) i ≡ some (get_or xs i 0)
element zero xs i l h = absurd (omega arith)
element (suc c) [] i l h = absurd (omega arith)
element (suc c) (x ∷ xs) zero l h = refl
element (suc c) (x ∷ xs) (suc i) l h = element c xs i (omega arith) (omega arith)

pub choice_below : (p : ℤ) (k : ℕ) → 1 ≤ k → choice p k < k
choice_below (pos n) k h = omega arith
choice_below (negsuc n) k h = omega arith

pub takes_arc
    : (W : Workload) (t s : ℕ) (p : ℤ) (c : ℕ) (xs : List ℕ) (i : ℕ) → take c xs ≡ W.arcs t s → c ≤ 4 → length xs ≡ 4 → 1 ≤ c → i ≡ choice p c
    → Takes W t s p (get_or xs i 0)
takes_arc W t s p c xs i e few four some_arc ei =
    let l : length (take c xs) ≡ c = omega (arith, length-take c xs) in
    let b : i < c = subst (λ (j : ℕ). j < c) (sym ei) (choice_below p c some_arc) in
    subst (λ (arcs : List ℕ). get_elem? arcs (choice p (length arcs)) ≡ some (get_or xs i 0)) e
    (ap (λ (j : ℕ). get_elem? (take c xs) (choice p j)) l ∙ ap (λ (j : ℕ). get_elem? (take c xs) j) (sym ei) ∙ element c xs i b (omega arith))
