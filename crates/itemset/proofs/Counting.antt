-- How many items a set has, and that there are fewer without one of them.
use Rattle.std.proofs.Common.{◌≡◌, ℕ, zero, suc, ◌<◌, ◌≤◌, Bool, true, false, refl, ap, ◌∙◌, inl, inr, arith}
use Rattle.std.proofs.lemmas.Bool.{cases_lt, false≢true, true≢false}
use Rattle.itemset.specs.declared.ItemSet.{ItemSet}
use Rattle.itemset.specs.Members.{holds}

abbrev one_more : Bool → ℕ → ℕ
one_more true n = suc n
one_more false n = n

-- of the items below n, how many are in the set
abbrev pub count : ItemSet → ℕ → ℕ
count s zero = 0
count s (suc n) = one_more (holds s n) (count s n)

one_more_le : (b c : Bool) (m n : ℕ) → (b ≡ true → c ≡ true) → m ≤ n → one_more b m ≤ one_more c n
one_more_le false false m n f l = l
one_more_le false true m n f l = omega (arith, l)
one_more_le true false m n f l = absurd (false≢true (f refl))
one_more_le true true m n f l = omega (arith, l)

one_more_lt : (b c : Bool) (m n : ℕ) → (b ≡ true → c ≡ true) → m < n → one_more b m < one_more c n
one_more_lt false false m n f l = l
one_more_lt false true m n f l = omega (arith, l)
one_more_lt true false m n f l = absurd (false≢true (f refl))
one_more_lt true true m n f l = omega (arith, l)

one_more_here : (b c : Bool) (m n : ℕ) → b ≡ false → c ≡ true → m ≤ n → one_more b m < one_more c n
one_more_here false true m n e f l = omega (arith, l)
one_more_here true c m n e f l = absurd (true≢false e)
one_more_here false false m n e f l = absurd (false≢true f)

pub count_within : (s : ItemSet) (n : ℕ) → count s n ≤ n
count_within s zero = (let h : 0 ≤ 0 = omega arith in h)
count_within s (suc n) = one_more_le (holds s n) true (count s n) n (λ e. refl) (count_within s n)

module _ (s t : ItemSet) (within : (e : ℕ) → holds t e ≡ true → holds s e ≡ true) where
  pub no_more : (n : ℕ) → count t n ≤ count s n
  no_more zero = (let h : 0 ≤ 0 = omega arith in h)
  no_more (suc n) = one_more_le (holds t n) (holds s n) (count t n) (count s n) (within n) (no_more n)

  pub fewer : (d : ℕ) → holds s d ≡ true → holds t d ≡ false → (n : ℕ) → d < n → count t n < count s n
  fewer d a b zero l = absurd (omega arith)
  fewer d a b (suc n) l = elim (cases_lt d n) [
    | inl h ↦ one_more_lt (holds t n) (holds s n) (count t n) (count s n) (within n) (fewer d a b n h)
    | inr h ↦ (let e : n ≡ d = omega arith in
        one_more_here (holds t n) (holds s n) (count t n) (count s n) (ap (holds t) e ∙ b) (ap (holds s) e ∙ a) (no_more n))
  ]
