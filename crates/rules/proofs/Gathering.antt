-- Sets and rows of sets that a loop gathers.
use Rattle.std.proofs.Common.{◌≡◌, ℕ, zero, suc, ◌<◌, ◌≤◌, true, false, not, ◌&&◌, List, length, get_or, replicate, Decides, sym, refl, ◌∙◌, subst, inl, inr, arith}
use lib.ListN.{length-replicate}
use Rattle.std.proofs.lemmas.List.{get_or_past}
use Rattle.std.proofs.lemmas.Bool.{cases_lt, cases_Bool, both_ways, and_parts, and_from, not-true, not_from_false}
use Rattle.itemset.proofs.Laws.{has_none}
use Rattle.itemset.specs.declared.ItemSet.{ItemSet}
use Rattle.itemset.specs.Members.{holds, nothing}
use Rattle.rules.specs.Reach.{Ahead, Joined, Reaches, here, step}
use Rattle.rules.specs.declared.state.State.{State}
use Rattle.rules.specs.Rules.{Arc, nowhere}
use Rattle.rules.specs.Sets.{Exactly, Names, NamesAlong}
use Rattle.rules.proofs.Rows.{joined_within}

-- the set holds what P says of some number below i
abbrev pub Gathered : (ℕ → ℕ → Type 0) → ItemSet → ℕ → Type 0
Gathered P x i = (m : ℕ) → Decides (holds x m) ((k : ℕ) × (k < i) × P k m)

-- the set holds the numbers below i of which Q holds
abbrev pub Picked : (ℕ → Type 0) → ItemSet → ℕ → Type 0
Picked Q x i = (m : ℕ) → Decides (holds x m) ((m < i) × Q m)

pub picked_none : (Q : ℕ → Type 0) (x : ItemSet) → ((m : ℕ) → holds x m ≡ false) → Picked Q x 0
picked_none Q x h m = (λ e. absurd (both_ways (holds x m) (h m) e), λ q. absurd (omega (arith, q.0)))

-- the set holds the numbers below 64 of which P says something for each number below i
abbrev pub Narrowed : (ℕ → ℕ → Type 0) → ItemSet → ℕ → Type 0
Narrowed P x i = (m : ℕ) → Decides (holds x m) ((m < 64) × ((k : ℕ) → k < i → P k m))

-- what a set holds, what two sets hold, and what one holds that another lacks
pub holding : (x : ItemSet) → Exactly x (λ d. holds x d ≡ true)
holding x d = (λ h. h, λ h. h)

pub both : (P Q : ℕ → Type 0) (x y z : ItemSet) → Exactly x P → Exactly y Q → ((e : ℕ) → holds z e ≡ (holds x e && holds y e)) → Exactly z (λ d. P d × Q d)
both P Q x y z p q e d = (
  λ h. let u = and_parts (holds x d) (holds y d) (sym (e d) ∙ h) in ((p d).0 u.0, (q d).0 u.1),
  λ u. e d ∙ and_from (holds x d) (holds y d) ((p d).1 u.0) ((q d).1 u.1),
)

pub lacking : (P : ℕ → Type 0) (x y z : ItemSet) → Exactly x P → ((e : ℕ) → holds z e ≡ (holds x e && not (holds y e))) → Exactly z (λ d. P d × (holds y d ≡ true → ⊥))
lacking P x y z p e d = (
  λ h. let u = and_parts (holds x d) (not (holds y d)) (sym (e d) ∙ h) in ((p d).0 u.0, both_ways (holds y d) (not-true (holds y d) u.1)),
  λ u. e d ∙ and_from (holds x d) (not (holds y d)) ((p d).1 u.0)
      (not_from_false (holds y d) (elim (cases_Bool (holds y d)) [ inl h ↦ absurd (u.1 h) | inr h ↦ h ])),
)

pub row_none : (n s : ℕ) (x : ItemSet) (m : ℕ) → holds x m ≡ false → holds (get_or (replicate n x) s nothing) m ≡ false
row_none zero s x m h = has_none m
row_none (suc n) zero x m h = h
row_none (suc n) (suc s) x m h = row_none n s x m h

-- each of n rows holds the numbers below i to which the relation E joins it
pub record Shared (E : ℕ → ℕ → Type 0) (n : ℕ) (rows : List ItemSet) (i : ℕ) : Type 0 where
  pub long : length rows ≡ n
  pub each : (d : ℕ) → d < n → Picked (E d) (get_or rows d nothing) i

pub shared_none : (E : ℕ → ℕ → Type 0) (n : ℕ) (x : ItemSet) → ((m : ℕ) → holds x m ≡ false) → Shared E n (replicate n x) 0
shared_none E n x h = record { long = length-replicate n x; each = λ d l. picked_none (E d) (get_or (replicate n x) d nothing) (λ m. row_none n d x m (h m)) }

-- a state past the end has no arc
pub no_arc : (states : List State) (s m : ℕ) → length states ≤ s → Arc states s m → ⊥
no_arc states s m l a =
    let b : a.1.0 < nowhere.arc_count = subst (λ (x : State). a.1.0 < x.arc_count) (get_or_past states s nowhere l) a.1.2 in
    omega arith

-- an arc goes out from a state
pub arc_from : (states : List State) (s m : ℕ) → Arc states s m → s < length states
arc_from states s m a = elim (cases_lt s (length states)) [ inl l ↦ l | inr l ↦ absurd (no_arc states s m l a) ]

-- an arc joins states of the type
pub arc_below : (states : List State) → length states ≤ 32 → (s m : ℕ) → Arc states s m → (s < 32) × (m < 32)
arc_below states few s m a = let i = arc_from states s m a in let j = a.0 in (omega arith, omega arith)

pub reaches_map : {E F : ℕ → ℕ → Type 0} {s t : ℕ} → ((a b : ℕ) → E a b → F a b) → Reaches E s t → Reaches F s t
reaches_map h here = here
reaches_map h (step {s = a} {m = b} e p) = step (h a b e) (reaches_map h p)

-- n rows that hold the relation E, which joins numbers below n alone
module _ (E : ℕ → ℕ → Type 0) (n : ℕ) (rows : List ItemSet) (long : length rows ≡ n) (below : (s m : ℕ) → E s m → (s < n) × (m < n))
    (are : (s : ℕ) → s < n → Exactly (get_or rows s nothing) (E s)) where
  pub rows_only : (s m : ℕ) → Joined rows s m → E s m
  rows_only s m j = (are s (omega (arith, joined_within rows s m j)) m).0 j

  pub rows_all : (s m : ℕ) → E s m → Joined rows s m
  rows_all s m e = (are s (below s m e).0 m).1 e

  low : {s t : ℕ} → Reaches E s t → s < n → t < n
  low here l = l
  low (step {s = s} {m = m} e p) l = low p (below s m e).1

  -- rows that held each its own number hold what they reach, once they hold what is ahead of them
  pub reached_along
      : (first last : List ItemSet) → length first ≡ n → ((s : ℕ) → s < n → Exactly (get_or first s nothing) (λ t. t ≡ s))
      → ((s : ℕ) → s < n → Exactly (get_or last s nothing) (Ahead (Joined rows) first s)) → (s : ℕ) → s < n → Exactly (get_or last s nothing) (Reaches E s)
  reached_along first last same own ahead s l t = (
    λ h.
        let a = (ahead s l t).0 h in
        let e : t ≡ a.0 = (own a.0 (omega (arith, joined_within first a.0 t a.2)) t).0 a.2 in
        subst (λ (x : ℕ). Reaches E s x) (sym e) (reaches_map rows_only a.1),
    λ p. (ahead s l t).1 (t, reaches_map rows_all p, (own t (low p l) t).1 refl),
  )

-- rows that hold the arcs join states of the type
pub arcs_within
    : (states : List State) → length states ≤ 32 → (arcs : List ItemSet) → length arcs ≡ 32 → ((s : ℕ) → s < 32 → Exactly (get_or arcs s nothing) (Arc states s))
    → (s m : ℕ) → Joined arcs s m → (s < length states) × (m < length states)
arcs_within states few arcs long are s m j =
    let a = rows_only (Arc states) 32 arcs long (arc_below states few) are s m j in
    (arc_from states s m a, a.0)

-- names that spread along a relation are named along it
pub names_spread
    : (E : ℕ → ℕ → Type 0) (states : List State) → length states ≤ 32 → (first last : List ItemSet) → length first ≡ 32
    → ((s : ℕ) → s < 32 → Exactly (get_or first s nothing) (λ d. (d < 64) × Names states s d)) → ((s : ℕ) → s < 32 → Exactly (get_or last s nothing) (Ahead E first s))
    → (s : ℕ) → s < 32 → Exactly (get_or last s nothing) (λ d. (d < 64) × NamesAlong E states s d)
names_spread E states few first last long names ahead s l d = (
  λ h.
      let a = (ahead s l d).0 h in
      let q = (names a.0 (omega (arith, joined_within first a.0 d a.2)) d).0 a.2 in
      (q.0, (a.0, a.1, q.1)),
  λ q. (ahead s l d).1 (q.1.0, q.1.1, (names q.1.0 (let i = q.1.2.0 in omega arith) d).1 (q.0, q.1.2)),
)
