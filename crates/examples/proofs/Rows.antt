-- Rows of parents and of states that keep the rules.
use Rattle.std.proofs.Common.{◌≡◌, ℕ, zero, suc, ◌<◌, ◌≤◌, List, [], ◌∷◌, length, get_or, refl, inl, inr, arith}
use mir.Facts.{sfits_lit}
use Rattle.rules.specs.Reach.{here, step}
use Rattle.rules.specs.Rules.{Arc, Connected, Rooted, nowhere}
use Rattle.rules.proofs.Fine.{FineType, InRange}
use Rattle.examples.specs.States.{last, leading, forking}

-- the item 0 is the root
pub root_rooted : (ps : List ℕ) → Rooted (255 ∷ ps) 0
root_rooted ps = (inr (refl, λ j l. absurd (omega arith)), (0, omega arith, here, refl))

-- an item right below it
pub below_rooted : (ps : List ℕ) (i : ℕ) → i < suc (length ps) → get_or (255 ∷ ps) i 0 ≡ 0 → Rooted (255 ∷ ps) i
below_rooted ps i l e = (inl (omega arith), (0, omega arith, step (l, e, omega arith) here, refl))

-- an item right below such a one
pub deeper_rooted
    : (ps : List ℕ) (i p : ℕ) → i < suc (length ps) → p < suc (length ps) → get_or (255 ∷ ps) i 0 ≡ p → get_or (255 ∷ ps) p 0 ≡ 0
    → Rooted (255 ∷ ps) i
deeper_rooted ps i p l m e f = (inl (omega arith), (0, omega arith, step (l, e, m) (step (m, f, omega arith) here), refl))

-- the arc bytes of a state without arcs
abbrev no_arcs : List ℕ
no_arcs = 0 ∷ 0 ∷ 0 ∷ 0 ∷ []

zeros : (k : ℕ) → get_or no_arcs k 0 ≡ 0
zeros zero = refl
zeros (suc zero) = refl
zeros (suc (suc zero)) = refl
zeros (suc (suc (suc zero))) = refl
zeros (suc (suc (suc (suc k)))) = refl

module _ (items codes states item code : ℕ) (hi : item < items) (hc : code < codes) where
  last_ranged : InRange items codes states (last item code)
  last_ranged =
      record {
        item = hi;
        code = hc;
        arcs = λ k l. absurd (omega arith);
        packed = record { few = omega arith; four = refl; unused = λ k l. zeros k; operand = sfits_lit tt };
      }

  leading_ranged : (s : ℕ) → s < states → InRange items codes states (leading item code s)
  leading_ranged s h =
      record {
        item = hi;
        code = hc;
        arcs = arcs;
        packed = record { few = omega arith; four = refl; unused = unused; operand = sfits_lit tt };
      }
    where
      arcs : (k : ℕ) → k < 1 → get_or (s ∷ 0 ∷ 0 ∷ 0 ∷ []) k 0 < states
      arcs zero l = h
      arcs (suc k) l = absurd (omega arith)

      unused : (k : ℕ) → 1 ≤ k → get_or (s ∷ 0 ∷ 0 ∷ 0 ∷ []) k 0 ≡ 0
      unused zero l = absurd (omega arith)
      unused (suc zero) l = refl
      unused (suc (suc zero)) l = refl
      unused (suc (suc (suc zero))) l = refl
      unused (suc (suc (suc (suc k)))) l = refl

  forking_ranged : (s r : ℕ) → s < states → r < states → InRange items codes states (forking item code s r)
  forking_ranged s r h m =
      record {
        item = hi;
        code = hc;
        arcs = arcs;
        packed = record { few = omega arith; four = refl; unused = unused; operand = sfits_lit tt };
      }
    where
      arcs : (k : ℕ) → k < 2 → get_or (s ∷ r ∷ 0 ∷ 0 ∷ []) k 0 < states
      arcs zero l = h
      arcs (suc zero) l = m
      arcs (suc (suc k)) l = absurd (omega arith)

      unused : (k : ℕ) → 2 ≤ k → get_or (s ∷ r ∷ 0 ∷ 0 ∷ []) k 0 ≡ 0
      unused zero l = absurd (omega arith)
      unused (suc zero) l = absurd (omega arith)
      unused (suc (suc zero)) l = refl
      unused (suc (suc (suc zero))) l = refl
      unused (suc (suc (suc (suc k)))) l = refl

module _ (items codes : ℕ) where
  -- a type of one state
  pub single_fine : (item code : ℕ) → item < items → code < codes → FineType items codes (last item code ∷ [])
  single_fine item code hi hc = record { some = omega arith; few = omega arith; ranged = ranged; connected = connected }
    where
      ranged : (s : ℕ) → s < 1 → InRange items codes 1 (get_or (last item code ∷ []) s nowhere)
      ranged zero l = last_ranged items codes 1 item code hi hc
      ranged (suc s) l = absurd (omega arith)

      connected : Connected (last item code ∷ [])
      connected zero l = (here, (0, omega arith, here, refl))
      connected (suc s) l = absurd (omega arith)

  -- one state after another
  pub pair_fine
      : (item code item' code' : ℕ) → item < items → code < codes → item' < items → code' < codes
      → FineType items codes (leading item code 1 ∷ last item' code' ∷ [])
  pair_fine item code item' code' hi hc hi' hc' =
      record { some = omega arith; few = omega arith; ranged = ranged; connected = connected }
    where
      ranged : (s : ℕ) → s < 2 → InRange items codes 2 (get_or (leading item code 1 ∷ last item' code' ∷ []) s nowhere)
      ranged zero l = leading_ranged items codes 2 item code hi hc 1 (omega arith)
      ranged (suc zero) l = last_ranged items codes 2 item' code' hi' hc'
      ranged (suc (suc s)) l = absurd (omega arith)

      onward : Arc (leading item code 1 ∷ last item' code' ∷ []) 0 1
      onward = (omega arith, (0, omega arith, omega arith, refl))

      connected : Connected (leading item code 1 ∷ last item' code' ∷ [])
      connected zero l = (here, (1, omega arith, step onward here, refl))
      connected (suc zero) l = (step onward here, (1, omega arith, here, refl))
      connected (suc (suc s)) l = absurd (omega arith)

  -- the second of three states may be passed over
  pub fork_fine
      : (item code item' code' item'' code'' : ℕ) → item < items → code < codes → item' < items → code' < codes
      → item'' < items → code'' < codes
      → FineType items codes (forking item code 1 2 ∷ leading item' code' 2 ∷ last item'' code'' ∷ [])
  fork_fine item code item' code' item'' code'' hi hc hi' hc' hi'' hc'' =
      record { some = omega arith; few = omega arith; ranged = ranged; connected = connected }
    where
      ranged
          : (s : ℕ) → s < 3
          → InRange items codes 3 (get_or (forking item code 1 2 ∷ leading item' code' 2 ∷ last item'' code'' ∷ []) s nowhere)
      ranged zero l = forking_ranged items codes 3 item code hi hc 1 2 (omega arith) (omega arith)
      ranged (suc zero) l = leading_ranged items codes 3 item' code' hi' hc' 2 (omega arith)
      ranged (suc (suc zero)) l = last_ranged items codes 3 item'' code'' hi'' hc''
      ranged (suc (suc (suc s))) l = absurd (omega arith)

      first_second : Arc (forking item code 1 2 ∷ leading item' code' 2 ∷ last item'' code'' ∷ []) 0 1
      first_second = (omega arith, (0, omega arith, omega arith, refl))

      first_last : Arc (forking item code 1 2 ∷ leading item' code' 2 ∷ last item'' code'' ∷ []) 0 2
      first_last = (omega arith, (1, omega arith, omega arith, refl))

      second_last : Arc (forking item code 1 2 ∷ leading item' code' 2 ∷ last item'' code'' ∷ []) 1 2
      second_last = (omega arith, (0, omega arith, omega arith, refl))

      connected : Connected (forking item code 1 2 ∷ leading item' code' 2 ∷ last item'' code'' ∷ [])
      connected zero l = (here, (2, omega arith, step first_last here, refl))
      connected (suc zero) l = (step first_second here, (2, omega arith, step second_last here, refl))
      connected (suc (suc zero)) l = (step first_last here, (2, omega arith, here, refl))
      connected (suc (suc (suc s))) l = absurd (omega arith)
