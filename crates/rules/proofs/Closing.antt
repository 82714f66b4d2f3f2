-- The closure of a relation: each number is joined to all that ways along it lead to.
use Rattle.std.proofs.Common.{◌≡◌, ℕ, ◌+◌, ◌<◌, ◌≤◌, ◌&&◌, ◌||◌, ◌⊎◌, true, List, length, get_or, sym, refl, ◌∙◌, subst, inl, inr, arith}
use Rattle.std.proofs.lemmas.Bool.{and_from, and_parts, cases_eq, or_cases, or_left, or_right}
use Rattle.itemset.specs.declared.ItemSet.{ItemSet}
use Rattle.itemset.specs.Members.{holds, nothing}
use Rattle.rules.specs.Reach.{Ahead, Closed, Converse, HeldBy, Joined, Reaches, Through, here, step}
use Rattle.rules.specs.Sets.{Exactly}
use Rattle.rules.proofs.Rows.{joined_within, reaches_on, turned}

pub through : (old new : List ItemSet) (k : ℕ) → length new ≡ length old
    → ((s t : ℕ) → s < length old → holds (get_or new s nothing) t ≡ (holds (get_or old s nothing) t || (holds (get_or old s nothing) k && holds (get_or old k nothing) t)))
    → Through old new k
through old new k e h = record { only = only; kept = kept; made = made }
  where
    only : (s t : ℕ) → Joined new s t → Joined old s t ⊎ (Joined old s k × Joined old k t)
    only s t j = elim (or_cases _ _ (sym (h s t (omega (arith, joined_within new s t j))) ∙ j)) [
      | inl a ↦ inl a
      | inr b ↦ inr (and_parts _ _ b)
    ]

    kept : (s t : ℕ) → Joined old s t → Joined new s t
    kept s t j = h s t (joined_within old s t j) ∙ or_left _ _ j

    made : (s t : ℕ) → Joined old s k → Joined old k t → Joined new s t
    made s t i j = h s t (joined_within old s k i) ∙ or_right _ _ (and_from _ _ i j)

-- the passes through all numbers below k are made
pub record Closing (first rows : List ItemSet) (k : ℕ) : Type 0 where
  pub sound : (s t : ℕ) → Joined rows s t → Reaches (Joined first) s t
  pub edges : (s t : ℕ) → Joined first s t → Joined rows s t
  pub ends : (s t : ℕ) → Joined rows s t → (m : ℕ) × Joined first m t
  pub closed : (s v t : ℕ) → v < k → Joined rows s v → Joined rows v t → Joined rows s t

pub closing_none : (first : List ItemSet) → Closing first first 0
closing_none first = record { sound = λ s t j. step j here; edges = λ s t j. j; ends = λ s t j. (s, j); closed = λ s v t h. absurd (omega arith) }

pub closing_more : (first old new : List ItemSet) (k : ℕ) → Closing first old k → Through old new k → Closing first new (k + 1)
closing_more first old new k c w = record { sound = sound; edges = λ s t j. w.kept s t (c.edges s t j); ends = ends; closed = closed }
  where
    sound : (s t : ℕ) → Joined new s t → Reaches (Joined first) s t
    sound s t j = elim (w.only s t j) [
      | inl a ↦ c.sound s t a
      | inr b ↦ reaches_on (c.sound s k b.0) (c.sound k t b.1)
    ]

    ends : (s t : ℕ) → Joined new s t → (m : ℕ) × Joined first m t
    ends s t j = elim (w.only s t j) [ inl a ↦ c.ends s t a | inr b ↦ c.ends k t b.1 ]

    -- all that row k holds, a row that held k holds now
    at_k : (s t : ℕ) → Joined new s k → Joined new k t → Joined new s t
    at_k s t i j =
        let i' : Joined old s k = elim (w.only s k i) [ inl a ↦ a | inr b ↦ b.0 ] in
        let j' : Joined old k t = elim (w.only k t j) [ inl a ↦ a | inr b ↦ b.1 ] in
        w.made s t i' j'

    below : (s v t : ℕ) → v < k → Joined new s v → Joined new v t → Joined new s t
    below s v t h i j = elim (w.only s v i) [
      | inl a ↦ elim (w.only v t j) [
        | inl x ↦ w.kept s t (c.closed s v t h a x)
        | inr y ↦ w.made s t (c.closed s v k h a y.0) y.1
      ]
      | inr b ↦ elim (w.only v t j) [
        | inl x ↦ w.made s t b.0 (c.closed k v t h b.1 x)
        | inr y ↦ w.made s t b.0 y.1
      ]
    ]

    closed : (s v t : ℕ) → v < k + 1 → Joined new s v → Joined new v t → Joined new s t
    closed s v t h i j = elim (cases_eq v k) [
      | inl e ↦ at_k s t (subst (λ (x : ℕ). Joined new s x) e i) (subst (λ (x : ℕ). Joined new x t) e j)
      | inr ne ↦ below s v t (omega arith) i j
    ]

-- after all passes each way has become one pair
pub closed_all : (first rows : List ItemSet) (n : ℕ) → length rows ≤ n → Closing first rows n → Closed first rows
closed_all first rows n l c = record { sound = c.sound; complete = complete; ends = c.ends }
  where
    complete : (s t : ℕ) → Reaches (Joined first) s t → (t ≡ s) ⊎ Joined rows s t
    complete s t here = inl refl
    complete s t (step {m = m} e p) = elim (complete m t p) [
      | inl q ↦ inr (subst (λ (x : ℕ). Joined rows s x) (sym q) (c.edges s m e))
      | inr q ↦ inr (c.closed s m t (omega (arith, joined_within rows m t q)) (c.edges s m e) q)
    ]

-- what a row holds, and what the rows hold that the closure joins to its number, is all that is ahead of it
pub ahead_closed
    : (along closed rows : List ItemSet) → Closed along closed → (s : ℕ) (y : ItemSet) → Exactly y (λ t. Joined rows s t ⊎ HeldBy rows (get_or closed s nothing) t)
    → Exactly y (Ahead (Joined along) rows s)
ahead_closed along closed rows C s y both t = (to, from)
  where
    to : holds y t ≡ true → Ahead (Joined along) rows s t
    to h = elim ((both t).0 h) [
      | inl j ↦ (s, here, j)
      | inr q ↦ (q.0, C.sound s q.0 q.1, q.2)
    ]

    from : Ahead (Joined along) rows s t → holds y t ≡ true
    from a = elim (C.complete s a.0 a.1) [
      | inl e ↦ (both t).1 (inl (subst (λ (m : ℕ). Joined rows m t) e a.2))
      | inr j ↦ (both t).1 (inr (a.0, j, a.2))
    ]

-- the same of the relation the other way round
pub behind_closed
    : (along closed rows : List ItemSet) → Closed along closed → (s : ℕ) (x y : ItemSet) → Exactly x (λ t. (m : ℕ) × Joined closed m s × Joined rows m t)
    → Exactly y (λ t. Joined rows s t ⊎ (holds x t ≡ true)) → Exactly y (Ahead (Converse (Joined along)) rows s)
behind_closed along closed rows C s x y handed both t = (to, from)
  where
    to : holds y t ≡ true → Ahead (Converse (Joined along)) rows s t
    to h = elim ((both t).0 h) [
      | inl j ↦ (s, here, j)
      | inr i ↦ (let q = (handed t).0 i in (q.0, turned (C.sound q.0 s q.1), q.2))
    ]

    from : Ahead (Converse (Joined along)) rows s t → holds y t ≡ true
    from a = elim (C.complete a.0 s (turned a.1)) [
      | inl e ↦ (both t).1 (inl (subst (λ (m : ℕ). Joined rows m t) (sym e) a.2))
      | inr j ↦ (both t).1 (inr ((handed t).1 (a.0, j, a.2)))
    ]
