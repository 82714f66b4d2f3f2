-- The workload of the listing: that it keeps the rules, its tree, and what may go in a job of its first type.
use Rattle.std.proofs.Common.{◌≡◌, ◌⊎◌, ℕ, zero, suc, ◌<◌, true, false, [], ◌∷◌, get_or, refl, sym, subst, inl, inr, arith}
use Rattle.locking.specs.Lists.{Mem}
use Rattle.model.specs.Workload.{Above, self, over, Arc, Named, LocalRoot, Local, LocalChild, LocalLeaf, Unlockable, WellFormed}
use Rattle.model.specs.Table.{Job, MayGo}
use Rattle.model.proofs.Job.{clash}
use Rattle.model.proofs.Tree.{local_item}
use Rattle.rules.specs.Lawful.{Lawful}
use Rattle.rules.specs.Rules.{Rooted}
use Rattle.rules.proofs.Fine.{FineType}
use Rattle.rules.proofs.Formed.{lawful_from}
use Rattle.examples.specs.Listing.{listing_parents, listing_types, listing_workload}
use Rattle.examples.proofs.Pair.{pair_only, pair_unlockable}
use Rattle.examples.proofs.Rows.{root_rooted, below_rooted, single_fine, pair_fine}

rooted : (i : ℕ) → i < 3 → Rooted listing_parents i
rooted zero l = root_rooted (0 ∷ 0 ∷ [])
rooted (suc zero) l = below_rooted (0 ∷ 0 ∷ []) 1 (omega arith) refl
rooted (suc (suc zero)) l = below_rooted (0 ∷ 0 ∷ []) 2 (omega arith) refl
rooted (suc (suc (suc i))) l = absurd (omega arith)

fine : (t : ℕ) → t < 3 → FineType 3 4 (get_or listing_types t [])
fine zero l = pair_fine 3 4 1 2 2 0 (omega arith) (omega arith) (omega arith) (omega arith)
fine (suc zero) l = single_fine 3 4 1 0 (omega arith) (omega arith)
fine (suc (suc zero)) l = single_fine 3 4 2 2 (omega arith) (omega arith)
fine (suc (suc (suc t))) l = absurd (omega arith)

pub lawful : Lawful listing_parents 4 listing_types
lawful =
    lawful_from listing_parents 4 listing_types (omega arith, omega arith) (omega arith, omega arith) (omega arith, omega arith)
    rooted fine

pub formed : WellFormed listing_workload
formed = lawful.formed

-- ---- the tree

-- nothing but the root lies above the root
pub above_root : {a d : ℕ} → Above listing_workload a d → d ≡ 0 → a ≡ 0
above_root self e = e
above_root (over d n h) e = absurd (n e)

-- above an item lie itself and the root
pub above_cases : {a d : ℕ} → Above listing_workload a d → (a ≡ d) ⊎ (a ≡ 0)
above_cases self = inl refl
above_cases (over zero n h) = absurd (n refl)
above_cases (over (suc zero) n h) = inr (above_root h refl)
above_cases (over (suc (suc zero)) n h) = inr (above_root h refl)
above_cases (over (suc (suc (suc d))) n h) = inr (above_root h refl)

pub below_root : (d : ℕ) → Above listing_workload 0 d
below_root zero = self
below_root (suc zero) = over 1 (λ e. absurd (omega arith)) self
below_root (suc (suc zero)) = over 2 (λ e. absurd (omega arith)) self
below_root (suc (suc (suc d))) = over (suc (suc (suc d))) (λ e. absurd (omega arith)) self

-- the first type names the items 1 and 2, below the root
pub names_one : Named listing_workload 0 1
names_one = (0, omega arith, refl)

pub names_two : Named listing_workload 0 2
names_two = (1, omega arith, refl)

pub first_root : LocalRoot listing_workload 0 0
first_root =
    record {
      common = λ d n. below_root d;
      deepest = λ a c. subst (λ (x : ℕ). Above listing_workload x 0)
          (sym (meet a (above_cases (c 1 names_one)) (above_cases (c 2 names_two)))) self;
    }
  where
    meet : (a : ℕ) → (a ≡ 1) ⊎ (a ≡ 0) → (a ≡ 2) ⊎ (a ≡ 0) → a ≡ 0
    meet a (inl e) (inl f) = omega arith
    meet a (inl e) (inr f) = f
    meet a (inr e) f = e

-- a type of one state has the item of that state as its local root
module _ (t i : ℕ) (named : Named listing_workload t i) (one : (d : ℕ) → Named listing_workload t d → d ≡ i) where
  pub lone_root : LocalRoot listing_workload t i
  lone_root =
      record {
        common = λ d n. subst (λ (x : ℕ). Above listing_workload i x) (sym (one d n)) self;
        deepest = λ a c. c i named;
      }

pub second_named : Named listing_workload 1 1
second_named = (0, omega arith, refl)

second_one : (d : ℕ) → Named listing_workload 1 d → d ≡ 1
second_one d n = go n.0 n.1 n.2
  where
    go : (s : ℕ) → s < 1 → listing_workload.item 1 s ≡ d → d ≡ 1
    go zero l e = sym e
    go (suc s) l e = absurd (omega arith)

pub second_root : LocalRoot listing_workload 1 1
second_root = lone_root 1 1 second_named second_one

pub third_named : Named listing_workload 2 2
third_named = (0, omega arith, refl)

third_one : (d : ℕ) → Named listing_workload 2 d → d ≡ 2
third_one d n = go n.0 n.1 n.2
  where
    go : (s : ℕ) → s < 1 → listing_workload.item 2 s ≡ d → d ≡ 2
    go zero l e = sym e
    go (suc s) l e = absurd (omega arith)

pub third_root : LocalRoot listing_workload 2 2
third_root = lone_root 2 2 third_named third_one

-- ---- the unlockable set of the first type's second state

one_arc : (m s : ℕ) → Mem s (listing_workload.arcs 0 m) → (m ≡ 0) × (s ≡ 1)
one_arc zero s (inl e) = (refl, e)
one_arc zero s (inr e) = absurd e
one_arc (suc zero) s e = absurd e
one_arc (suc (suc m)) s e = absurd e

first_second : Arc listing_workload 0 0 1
first_second = (omega arith, inl refl)

pub leaves_one : Unlockable listing_workload 0 1 1
leaves_one = pair_unlockable listing_workload 0 first_second one_arc apart
  where
    apart : ◌≡◌ {A = ℕ} 2 1 → ⊥
    apart e = omega arith

pub leaves_only : (d : ℕ) → Unlockable listing_workload 0 1 d → d ≡ 1
leaves_only = pair_only listing_workload 0 first_second one_arc

-- ---- what may go

-- what is not held stays as it is, and what is named and not done is kept
pub unheld_stays : (J : Job) (d : ℕ) → J.held d ≡ false → ¬ MayGo listing_workload J d
unheld_stays J d e g = clash g.is_held e

pub named_stays : (J : Job) (d : ℕ) → Named listing_workload J.type d → J.done d ≡ false → ¬ MayGo listing_workload J d
named_stays J d n e g = go g.unneeded
  where
    go : (J.done d ≡ true) ⊎ ¬ Named listing_workload J.type d → ⊥
    go (inl f) = clash f e
    go (inr f) = f n

inside : (d : ℕ) → Named listing_workload 0 d → Local listing_workload 0 d
inside d n =
    record { root = 0; is_root = first_root; below_root = below_root d; named = d; is_named = n; above_named = self }

inside_root : Local listing_workload 0 0
inside_root =
    record { root = 0; is_root = first_root; below_root = self; named = 1; is_named = names_one; above_named = below_root 1 }

-- a job of the first type keeps the root until it has locked the item 2
pub root_stays
    : (J : Job) → J.type ≡ 0 → J.ever_locked 2 ≡ false → J.done 2 ≡ false → ¬ MayGo listing_workload J 0
root_stays J e l f g = go (g.passed 2 (subst (λ (t : ℕ). LocalChild listing_workload t 0 2) (sym e) child))
  where
    child : LocalChild listing_workload 0 0 2
    child = record { inside = inside 2 names_two; parent = inside_root; not_top = λ e. absurd (omega arith); right_below = refl }

    go : (J.ever_locked 2 ≡ true) ⊎ (LocalLeaf listing_workload J.type 2 × (J.done 2 ≡ true)) → ⊥
    go (inl a) = clash a l
    go (inr a) = clash a.1 f

-- it may let the item 1 go once that is done, since nothing stands below it
pub one_goes : (J : Job) → J.held 1 ≡ true → J.done 1 ≡ true → MayGo listing_workload J 1
one_goes J h f = record { is_held = h; unneeded = inl f; passed = λ c k. absurd (childless c k.not_top k.right_below) }
  where
    childless : (c : ℕ) → ¬ (c ≡ 0) → listing_workload.up c ≡ 1 → ⊥
    childless zero n e = n refl
    childless (suc zero) n e = omega arith
    childless (suc (suc zero)) n e = omega arith
    childless (suc (suc (suc c))) n e = omega arith

-- and the root, which it does not name, once the items 1 and 2 were locked
pub root_goes
    : (J : Job) → J.type ≡ 0 → J.held 0 ≡ true → J.ever_locked 1 ≡ true → J.ever_locked 2 ≡ true → MayGo listing_workload J 0
root_goes J e h one two = record { is_held = h; unneeded = inr unnamed; passed = λ c k. inl (locked c (item c k) k.not_top) }
  where
    unnamed : ¬ Named listing_workload J.type 0
    unnamed n =
        go n.0 (subst (λ (t : ℕ). listing_workload.item t n.0 ≡ 0) e n.2)
        (subst (λ (t : ℕ). n.0 < listing_workload.states t) e n.1)
      where
        go : (s : ℕ) → listing_workload.item 0 s ≡ 0 → s < 2 → ⊥
        go zero f l = omega arith
        go (suc zero) f l = omega arith
        go (suc (suc s)) f l = omega arith

    item : (c : ℕ) → LocalChild listing_workload J.type 0 c → c < 3
    item c k = local_item listing_workload formed 0 (omega arith) (subst (λ (t : ℕ). Local listing_workload t c) e k.inside)

    locked : (c : ℕ) → c < 3 → ¬ (c ≡ 0) → J.ever_locked c ≡ true
    locked zero l n = absurd (n refl)
    locked (suc zero) l n = one
    locked (suc (suc zero)) l n = two
    locked (suc (suc (suc c))) l n = absurd (omega arith)
