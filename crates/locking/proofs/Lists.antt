-- Facts of membership and order in a list.
use mathlib.Core.Path.{◌≡◌, refl, sym, ◌∙◌, subst}
use mathlib.Core.List.{List, [], ◌∷◌}
use mathlib.Core.Logic.{◌⊎◌, inl, inr}
use mathlib.Core.Bool.{Bool, true, false, cond}
use native.Mathlib.Omega.{arith}
use lib.Dec.{eqb}
use lib.ListN.{length}
use Prim.Native.Nat.{ℕ, suc, ◌<◌}
use Rattle.locking.specs.Lists.{Mem, Before, Distinct}

-- a case split on a test that keeps the equation
pub by_test : (P : Bool → Type 0) (b : Bool) → (b ≡ true → P true) → (b ≡ false → P false) → P b
by_test P true f g = f refl
by_test P false f g = g refl

module _ {A : Type 0} where
  pub before_left : (x y : A) (l : List A) → Before x y l → Mem x l
  before_left x y [] h = absurd h
  before_left x y (z ∷ zs) (inl h) = inl h.0
  before_left x y (z ∷ zs) (inr h) = inr (before_left x y zs h)

  pub before_right : (x y : A) (l : List A) → Before x y l → Mem y l
  before_right x y [] h = absurd h
  before_right x y (z ∷ zs) (inl h) = inr h.1
  before_right x y (z ∷ zs) (inr h) = inr (before_right x y zs h)

  -- nothing stands before the head of a list in which nothing stands twice
  pub before_head : (w z : A) (zs : List A) → ¬ Mem z zs → ¬ Before w z (z ∷ zs)
  before_head w z zs n (inl h) = n h.1
  before_head w z zs n (inr h) = n (before_right w z zs h)

  -- what stands in the tail is not the head
  pub before_tail : (w y z : A) (zs : List A) → ¬ (w ≡ z) → Before w y (z ∷ zs) → Before w y zs
  before_tail w y z zs n (inl h) = absurd (n h.0)
  before_tail w y z zs n (inr h) = h

  pub mem_not_head : (w z : A) (zs : List A) → ¬ Mem z zs → Mem w zs → ¬ (w ≡ z)
  mem_not_head w z zs n m e = n (subst (λ (v : A). Mem v zs) e m)

  -- two members of which neither is the other: one stands before the other
  pub before_either : (x y : A) (l : List A) → Mem x l → Mem y l → (x ≡ y) ⊎ (Before x y l ⊎ Before y x l)
  before_either x y [] m n = absurd m
  before_either x y (z ∷ zs) (inl e) (inl f) = inl (e ∙ sym f)
  before_either x y (z ∷ zs) (inl e) (inr n) = inr (inl (inl (e, n)))
  before_either x y (z ∷ zs) (inr m) (inl f) = inr (inr (inl (f, m)))
  before_either x y (z ∷ zs) (inr m) (inr n) =
      elim (before_either x y zs m n) [ inl e ↦ inl e | inr (inl b) ↦ inr (inl (inr b)) | inr (inr b) ↦ inr (inr (inr b)) ]

-- the first position, counted from 0, at which x stands
abbrev pub position : ℕ → List ℕ → ℕ
position x [] = 0
position x (y ∷ ys) = cond (eqb x y) 0 (suc (position x ys))

pub eqb_same : (x y : ℕ) → x ≡ y → eqb x y ≡ true
eqb_same x y e = grind arith

pub same_eqb : (x y : ℕ) → eqb x y ≡ true → x ≡ y
same_eqb x y e = grind arith

pub eqb_apart : (x y : ℕ) → ¬ (x ≡ y) → eqb x y ≡ false
eqb_apart x y e = grind arith

position_head : (x y : ℕ) (ys : List ℕ) → x ≡ y → position x (y ∷ ys) ≡ 0
position_head x y ys e = rw (eqb_same x y e)

position_later : (x y : ℕ) (ys : List ℕ) → ¬ (x ≡ y) → position x (y ∷ ys) ≡ suc (position x ys)
position_later x y ys n = rw (eqb_apart x y n)

-- the position tells the number
pub position_apart : (x y : ℕ) (l : List ℕ) → Mem x l → Mem y l → position x l ≡ position y l → x ≡ y
position_apart x y [] m n e = absurd m
position_apart x y (z ∷ zs) m n e =
    grind (arith, position_apart x y zs, position_head x z zs, position_later x z zs, position_head y z zs, position_later y z zs)

-- an earlier position is a smaller number
pub position_before : (x y : ℕ) (l : List ℕ) → Distinct l → Before x y l → position x l < position y l
position_before x y [] d h = absurd h
position_before x y (z ∷ zs) d (inl h) =
    let a = position_head x z zs h.0 in
    let b = position_later y z zs (mem_not_head y z zs d.0 h.1) in
    omega arith
position_before x y (z ∷ zs) d (inr h) =
    let a = position_later x z zs (mem_not_head x z zs d.0 (before_left x y zs h)) in
    let b = position_later y z zs (mem_not_head y z zs d.0 (before_right x y zs h)) in
    let c = position_before x y zs d.1 h in
    omega arith

pub position_below : (x : ℕ) (l : List ℕ) → Mem x l → position x l < length l
position_below x [] m = absurd m
position_below x (y ∷ ys) (inl e) = let a = position_head x y ys e in omega arith
position_below x (y ∷ ys) (inr m) =
    let r = position_below x ys m in
    elim (eqb x y) as (λ v. cond v 0 (suc (position x ys)) < suc (length ys)) [ true ↦ omega arith | false ↦ omega arith ]
