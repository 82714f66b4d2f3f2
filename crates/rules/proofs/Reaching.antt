-- A set that takes in what its numbers are joined to, until it holds all that they reach.
use Rattle.std.proofs.Common.{◌≡◌, ℕ, ◌+◌, ◌<◌, List, Option, Some, None, MatchOption, true, false, not, ◌&&◌, sym, ap, ◌∙◌, inl, inr, arith}
use Rattle.std.specs.Option.{is_some}
use Rattle.std.proofs.lemmas.Bool.{and_from, and_parts, both_ways, cases_Bool, cases_eq, false≢true, not-true, not_from_false, true≢false}
use Rattle.itemset.specs.declared.ItemSet.{ItemSet}
use Rattle.itemset.specs.Members.{holds}
use Rattle.rules.specs.declared.closure.Order.{Order}
use Rattle.rules.specs.declared.closure.Way.{Way}
use Rattle.rules.specs.declared.closure.Way.TheVariants.{On, Back}
use Rattle.rules.specs.Reach.{Grows, Joined, ReachedFrom, Reaches, TakesIn, along, here, row_of, step, turn}
use Rattle.rules.specs.Sets.{Exactly}
use Rattle.rules.proofs.Rows.{reaches_on}
use Rattle.rules.proofs.Spreading.{its_turn}

-- the set took in numbers that its own reach
pub record Reaching (E : ℕ → ℕ → Type 0) (from now : ItemSet) : Type 0 where
  pub kept : (t : ℕ) → holds from t ≡ true → holds now t ≡ true
  pub only : (t : ℕ) → holds now t ≡ true → ReachedFrom E from t

pub reaching_none : (E : ℕ → ℕ → Type 0) (from : ItemSet) → Reaching E from from
reaching_none E from = record { kept = λ t h. h; only = λ t h. (t, h, here) }

pub reaching_more : {E : ℕ → ℕ → Type 0} {from old new : ItemSet} → Reaching E from old → Reaching E old new → Reaching E from new
reaching_more R S =
    record {
      kept = λ t h. S.kept t (R.kept t h);
      only = λ t h. let a = S.only t h in let b = R.only a.0 a.1 in (b.0, b.1, reaches_on b.2 a.2);
    }

-- and once it lacks none, it holds all of them
pub reaching_all
    : (E : ℕ → ℕ → Type 0) (from now : ItemSet) → Reaching E from now → ((m t : ℕ) → E m t → holds now m ≡ true → holds now t ≡ true)
    → Exactly now (ReachedFrom E from)
reaching_all E from now R closed t = (R.only t, λ q. on q.2 (R.kept q.0 q.1))
  where
    on : {s m : ℕ} → Reaches E s m → holds now s ≡ true → holds now m ≡ true
    on here h = h
    on (step {s = s} {m = m} e p) h = on p (closed s m e h)

-- k of n rows had their turn: what they join to the numbers of the first set is in the set
pub record Growing (way : Way) (rows : List ItemSet) (first now : ItemSet) (order : Order) (n k : ℕ) : Type 0 where
  pub reaching : Reaching (along way rows) first now
  pub taken : (j : ℕ) → j < k → (m t : ℕ) → row_of way m t ≡ turn order n j → along way rows m t → holds first m ≡ true → holds now t ≡ true

pub growing_none : (way : Way) (rows : List ItemSet) (first : ItemSet) (order : Order) (n : ℕ) → Growing way rows first first order n 0
growing_none way rows first order n = record { reaching = reaching_none (along way rows) first; taken = λ j l. absurd (omega arith) }

pub growing_more
    : (way : Way) (rows : List ItemSet) (first old new : ItemSet) (order : Order) (n k s : ℕ) → s ≡ turn order n k → Growing way rows first old order n k → TakesIn rows s way old new
    → Growing way rows first new order n (k + 1)
growing_more way rows first old new order n k s its G w =
    record { reaching = reaching_more G.reaching (record { kept = w.kept; only = only }); taken = taken }
  where
    only : (t : ℕ) → holds new t ≡ true → ReachedFrom (along way rows) old t
    only t h = elim (w.only t h) [ inl a ↦ (t, a, here) | inr q ↦ (q.0, q.1, step q.2 here) ]

    taken : (j : ℕ) → j < k + 1 → (m t : ℕ) → row_of way m t ≡ turn order n j → along way rows m t → holds first m ≡ true → holds new t ≡ true
    taken j l m t r e h = elim (cases_eq j k) [
      | inl i ↦ w.took m t (r ∙ ap (turn order n) i ∙ sym its) e (G.reaching.kept m h)
      | inr ne ↦ w.kept t (G.taken j (omega arith) m t r e h)
    ]

module _ (way : Way) (rows : List ItemSet) (first now : ItemSet) (order : Order) (n : ℕ) (within : (s m : ℕ) → Joined rows s m → (s < n) × (m < n)) (G : Growing way rows first now order n n) where
  row_within : (w : Way) (m t : ℕ) → along w rows m t → (row_of w m t < n) × (t < n)
  row_within On m t e = within m t e
  row_within Back m t e = let i = within t m e in (i.0, i.0)

  -- a set that did not grow lacks none
  quiet_still : ((t : ℕ) → holds now t ≡ true → holds first t ≡ true) → (m t : ℕ) → along way rows m t → holds now m ≡ true → holds now t ≡ true
  quiet_still same m t e h = let j = its_turn order n (row_of way m t) (row_within way m t e).0 in G.taken j.0 j.1 m t (sym j.2) e (same m h)

  pub grown_still : (more : ItemSet) → ((e : ℕ) → holds more e ≡ (holds now e && not (holds first e))) → ((e : ℕ) → holds more e ≡ false) → Grows (along way rows) first now false
  grown_still more e none =
      record { kept = G.reaching.kept; only = G.reaching.only; quiet = λ f. quiet_still same; loud = λ f. absurd (false≢true f) }
    where
      same : (t : ℕ) → holds now t ≡ true → holds first t ≡ true
      same t i = elim (cases_Bool (holds first t)) [
        | inl y ↦ y
        | inr f ↦ absurd (both_ways (holds more t) (none t) (e t ∙ and_from (holds now t) (not (holds first t)) i (not_from_false (holds first t) f)))
      ]

  -- nor does one that has all
  pub grown_full : ((t : ℕ) → t < n → holds now t ≡ true) → Grows (along way rows) first now false
  grown_full all =
      record { kept = G.reaching.kept; only = G.reaching.only; quiet = λ f m t e h. all t (row_within way m t e).1; loud = λ f. absurd (false≢true f) }

  -- and one that grew shows it by a new number
  pub grown_more : (t : ℕ) → t < 64 → (more : ItemSet) → ((e : ℕ) → holds more e ≡ (holds now e && not (holds first e))) → holds more t ≡ true → Grows (along way rows) first now true
  grown_more t l more e h =
      let q = and_parts (holds now t) (not (holds first t)) (sym (e t) ∙ h) in
      record { kept = G.reaching.kept; only = G.reaching.only; quiet = λ f. absurd (true≢false f); loud = λ f. (t, l, q.0, not-true (holds first t) q.1) }

-- a set whose lowest number is not found has none
pub none_left : (x : ItemSet) (r : Option ℕ) → MatchOption r ((e : ℕ) → holds x e ≡ false) (λ d. (holds x d ≡ true) × ((e : ℕ) → e < d → holds x e ≡ false) × (d < 64)) → is_some r ≡ false
    → (e : ℕ) → holds x e ≡ false
none_left x None h f = h
none_left x (Some d) h f = absurd (true≢false f)
