-- A workload of one lone state keeps the rules.
use Rattle.std.proofs.Common.{◌≡◌, ℕ, zero, suc, ◌<◌, ◌≤◌, true, List, [], ◌∷◌, length, get_or, Result, Ok, Err, MatchResult, is_ok, ℤ, refl, ap, ◌∙◌, inr, arith, w32, SFits}
use Rattle.rules.specs.declared.state.State.{State}
use Rattle.rules.specs.Lawful.{Lawful}
use Rattle.rules.specs.Reach.{here}
use Rattle.rules.specs.Rules.{BreaksAt, Connected, Rooted, nowhere, too_many_items, unrooted}
use Rattle.rules.proofs.Fine.{FineType, InRange}
use Rattle.rules.proofs.Formed.{lawful_from}
use Rattle.workload.specs.Types.{lone_state}

abbrev no_arcs : List ℕ
no_arcs = 0 ∷ 0 ∷ 0 ∷ 0 ∷ []

zeros : (k : ℕ) → get_or no_arcs k 0 ≡ 0
zeros zero = refl
zeros (suc zero) = refl
zeros (suc (suc zero)) = refl
zeros (suc (suc (suc zero))) = refl
zeros (suc (suc (suc (suc k)))) = refl

pub one_rooted : (i : ℕ) → i < 1 → Rooted (255 ∷ []) i
one_rooted zero h = (inr (refl, λ j l. absurd (omega arith)), (0, omega arith, here, refl))
one_rooted (suc i) h = absurd (omega arith)

-- so no item breaks the tree
none_breaks : (i : ℕ) → BreaksAt (255 ∷ []) i → ⊥
none_breaks i (unrooted l b) = b.1 (one_rooted i b.0)
none_breaks i (too_many_items l e) = absurd (omega arith)

pub makes_tree : {L : Type 0} (P : L → Type 0) (r : Result L ℕ) → MatchResult r P (BreaksAt (255 ∷ [])) → is_ok r ≡ true
makes_tree P (Ok x) h = refl
makes_tree P (Err i) h = absurd (none_breaks i h)

-- a type of one terminal state
pub lone_fine
    : (codes : ℕ) (x : State) → x.item < 1 → x.code < codes → x.arc_count ≡ 0 → x.arcs ≡ 0 ∷ 0 ∷ 0 ∷ 0 ∷ [] → SFits w32 x.operand
    → FineType 1 codes (x ∷ [])
lone_fine codes x hi hc e z f = record { some = omega arith; few = omega arith; ranged = ranged; connected = connected }
  where
    ranged : (s : ℕ) → s < 1 → InRange 1 codes 1 (get_or (x ∷ []) s nowhere)
    ranged zero h =
        record {
          item = hi;
          code = hc;
          arcs = λ k l. absurd (omega arith);
          packed = record {
            few = omega arith;
            four = ap length z;
            unused = λ k l. ap (λ (bytes : List ℕ). get_or bytes k 0) z ∙ zeros k;
            operand = f;
          };
        }
    ranged (suc s) h = absurd (omega arith)

    connected : Connected (x ∷ [])
    connected zero h = (here, (0, omega arith, here, e))
    connected (suc s) h = absurd (omega arith)

-- a workload of one item and one such type
pub lone_lawful : (codes : ℕ) (x : State) → (1 ≤ codes) × (codes ≤ 255) → FineType 1 codes (x ∷ []) → Lawful (255 ∷ []) codes ((x ∷ []) ∷ [])
lone_lawful codes x hc f =
    lawful_from (255 ∷ []) codes ((x ∷ []) ∷ []) (omega arith, omega arith) hc (omega arith, omega arith) one_rooted each
  where
    each : (t : ℕ) → t < 1 → FineType 1 codes (get_or ((x ∷ []) ∷ []) t [])
    each zero h = f
    each (suc t) h = absurd (omega arith)

pub single_lawful : (operand : ℤ) → SFits w32 operand → Lawful (255 ∷ []) 1 ((lone_state operand ∷ []) ∷ [])
single_lawful operand f = lone_lawful 1 (lone_state operand) (omega arith, omega arith) (lone_fine 1 (lone_state operand) (omega arith) (omega arith) refl refl f)
