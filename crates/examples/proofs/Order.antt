-- Which order of the three jobs explains the listing.
use Rattle.std.proofs.Common.{◌≡◌, ℕ, zero, suc, ◌<◌, List, [], ◌∷◌, ℤ, pos, refl, ◌∙◌, subst, inl, inr, arith}
use Rattle.model.specs.Journal.{Journal, Work, work_of, journal, Alone, stops, goes_on, OneByOne, none_left, then, EachOnce}
use Rattle.model.proofs.Once.{alone_one}
use Rattle.examples.specs.Listing.{listing_workload, at_first, listing_events}
use Rattle.examples.proofs.Turns.{tallies}
use Rattle.examples.proofs.Course.{at_end}

abbrev pub told_by : Journal ℤ
told_by = journal listing_workload tallies at_first listing_events

-- the tallies when the third job has run alone
abbrev third_first : List ℤ
third_first = pos 0 ∷ pos 0 ∷ pos 7 ∷ []

-- the works of the first job
abbrev first_works : List Work
first_works = work_of listing_workload 0 0 (pos 10) ∷ work_of listing_workload 0 1 (pos 0) ∷ []

-- the first job alone, when the tallies 1 and 2 are 0 and n: it ends with n
first_alone
    : (n : ℕ) → Alone listing_workload tallies 0 0 (pos 0 ∷ pos 0 ∷ pos n ∷ []) (pos 10) first_works
    (pos 0 ∷ pos 10 ∷ pos n ∷ []) (pos n)
first_alone n =
    goes_on 0 1 (pos 0 ∷ pos 0 ∷ pos n ∷ []) (pos 0 ∷ pos 10 ∷ pos n ∷ []) (pos 0 ∷ pos 10 ∷ pos n ∷ []) (pos 10) (pos 0) (pos n)
    (work_of listing_workload 0 1 (pos 0) ∷ []) (record { found = pos 0; there = refl; value = refl; register = refl }) refl
    (stops 1 (pos 0 ∷ pos 10 ∷ pos n ∷ []) (pos 0 ∷ pos 10 ∷ pos n ∷ []) (pos 0) (pos n)
    (record { found = pos n; there = refl; value = refl; register = refl }) refl)

-- the second: it ends with what the tally 1 is
second_alone
    : (k n : ℕ) → Alone listing_workload tallies 1 0 (pos 0 ∷ pos k ∷ pos n ∷ []) (pos 0) (work_of listing_workload 1 0 (pos 0) ∷ [])
    (pos 0 ∷ pos k ∷ pos n ∷ []) (pos k)
second_alone k n =
    stops 0 (pos 0 ∷ pos k ∷ pos n ∷ []) (pos 0 ∷ pos k ∷ pos n ∷ []) (pos 0) (pos k)
    (record { found = pos k; there = refl; value = refl; register = refl }) refl

-- and the third, at the start
third_alone
    : Alone listing_workload tallies 2 0 at_first (pos 7) (work_of listing_workload 2 0 (pos 7) ∷ []) third_first (pos 0)
third_alone =
    stops 0 at_first third_first (pos 7) (pos 0) (record { found = pos 0; there = refl; value = refl; register = refl }) refl

pub listing_explained : OneByOne listing_workload tallies told_by (2 ∷ 0 ∷ 1 ∷ []) at_first at_end
listing_explained =
    then 2 (0 ∷ 1 ∷ []) at_first third_first at_end third_alone
    (then 0 (1 ∷ []) third_first at_end at_end (first_alone 7) (then 1 [] at_end at_end at_end (second_alone 10 7) (none_left at_end)))

-- ---- no other order

-- the job j, run alone, does what it did
abbrev RunsAlone : ℕ → List ℤ → List ℤ → Type 0
RunsAlone j vs vs' =
    Alone listing_workload tallies (told_by.job j).type 0 vs (told_by.job j).argument (told_by.job j).works vs'
    (told_by.job j).register

-- the first of an order ran alone, and then the others
opened
    : (j : ℕ) (js : List ℕ) (vs end : List ℤ) → OneByOne listing_workload tallies told_by (j ∷ js) vs end
    → (vs' : List ℤ) × RunsAlone j vs vs'
    × OneByOne listing_workload tallies told_by js vs' end
opened _ _ _ _ (then j js vs vs' vs'' a r) = (vs', a, r)

-- At first only the third job can have run: the first would have read 0 and not 7, and the second 0 and not 10.
third_starts
    : (j : ℕ) (js : List ℕ) (end : List ℤ) → j < 3 → OneByOne listing_workload tallies told_by (j ∷ js) at_first end
    → (j ≡ 2) × OneByOne listing_workload tallies told_by js third_first end
third_starts zero js end l r =
    let o = opened 0 js at_first end r in
    let same = alone_one listing_workload tallies _ _ _ _ _ _ o.1 (first_alone 0) in absurd (cc)
third_starts (suc zero) js end l r =
    let o = opened 1 js at_first end r in
    let same = alone_one listing_workload tallies _ _ _ _ _ _ o.1 (second_alone 0 0) in absurd (cc)
third_starts (suc (suc zero)) js end l r =
    let o = opened 2 js at_first end r in
    let same = alone_one listing_workload tallies _ _ _ _ _ _ o.1 third_alone in
    (refl, subst (λ (v : List ℤ). OneByOne listing_workload tallies told_by js v end) same.1 o.2)
third_starts (suc (suc (suc j))) js end l r = absurd (omega arith)

-- then the second would still have read 0
first_follows
    : (j : ℕ) (js : List ℕ) (end : List ℤ) → j < 3 → ¬ (2 ≡ j) → OneByOne listing_workload tallies told_by (j ∷ js) third_first end
    → j ≡ 0
first_follows zero js end l n r = refl
first_follows (suc zero) js end l n r =
    let o = opened 1 js third_first end r in
    let same = alone_one listing_workload tallies _ _ _ _ _ _ o.1 (second_alone 0 7) in absurd (cc)
first_follows (suc (suc zero)) js end l n r = absurd (n refl)
first_follows (suc (suc (suc j))) js end l n r = absurd (omega arith)

-- an order begins with the third job and then the first
starts_so
    : (j k : ℕ) (js : List ℕ) (end : List ℤ) → EachOnce told_by (j ∷ k ∷ js)
    → OneByOne listing_workload tallies told_by (j ∷ k ∷ js) at_first end → (j ≡ 2) × (k ≡ 0)
starts_so j k js end o r =
    let s = third_starts j (k ∷ js) end (o.only j (inl refl)) r in
    (s.0, first_follows k js end (o.only k (inr (inl refl))) (λ e. o.distinct.0 (inl (s.0 ∙ e))) s.1)

pub listing_order
    : (order : List ℕ) (end : List ℤ) → EachOnce told_by order → OneByOne listing_workload tallies told_by order at_first end
    → order ≡ 2 ∷ 0 ∷ 1 ∷ []
listing_order [] end o r = absurd (o.whole 0 (omega arith))
listing_order (j ∷ []) end o r = absurd (elim (o.whole 0 (omega arith)) [
  | inl e ↦ absurd (let s = (third_starts j [] end (o.only j (inl refl)) r).0 in omega arith)
  | inr e ↦ e
])
listing_order (j ∷ k ∷ []) end o r =
    let s = starts_so j k [] end o r in
    absurd (elim (o.whole 1 (omega arith)) [ inl e ↦ omega (arith, s) | inr (inl e) ↦ omega (arith, s) | inr (inr e) ↦ e ])
listing_order (j ∷ k ∷ l ∷ []) end o r =
    let s = starts_so j k (l ∷ []) end o r in
    let n : ¬ (j ≡ l) = λ e. o.distinct.0 (inr (inl e)) in
    let m : ¬ (k ≡ l) = λ e. o.distinct.1.0 (inl e) in
    let i : l < 3 = o.only l (inr (inr (inl refl))) in
    let last : l ≡ 1 = omega (arith, s, n, m, i) in
    cc
listing_order (j ∷ k ∷ l ∷ x ∷ xs) end o r =
    let s = starts_so j k (l ∷ x ∷ xs) end o r in
    let jl : ¬ (j ≡ l) = λ e. o.distinct.0 (inr (inl e)) in
    let jx : ¬ (j ≡ x) = λ e. o.distinct.0 (inr (inr (inl e))) in
    let kl : ¬ (k ≡ l) = λ e. o.distinct.1.0 (inl e) in
    let kx : ¬ (k ≡ x) = λ e. o.distinct.1.0 (inr (inl e)) in
    let lx : ¬ (l ≡ x) = λ e. o.distinct.1.1.0 (inl e) in
    let il : l < 3 = o.only l (inr (inr (inl refl))) in
    let ix : x < 3 = o.only x (inr (inr (inr (inl refl)))) in
    absurd (omega (arith, s, jl, jx, kl, kx, lx, il, ix))
