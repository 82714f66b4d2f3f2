-- Tables of the listing and what one call does to them.
use Rattle.std.proofs.Common.{◌≡◌, ◌↔◌, ◌⊎◌, ℕ, zero, suc, ◌<◌, ◌≤◌, length, Bool, true, false, List, ◌∷◌, ℤ, refl, sym, ◌∙◌, subst, ap, inl, inr, arith}
use Rattle.std.proofs.Math.Option.{Option, none, some}
use Rattle.model.specs.Journal.{Event, Reached, next}
use Rattle.model.specs.Table.{Kind, Job, item_of, WithAll, Wanted, new_job, Told, Steps, Table, HoldsAt, Placed, seat}
use Rattle.model.specs.Table.{Call, begin, step, collect, Answer, began, told, collected, Moves, begins, steps, collects}
use Rattle.model.specs.Workload.{Above, self, LocalRoot, Unlockable}
use Rattle.model.proofs.History.{none_some, some_same}
use Rattle.model.proofs.Job.{clash}
use Rattle.kinds.specs.Tallies.{tally_act, tally_codes}
use Rattle.examples.specs.Listing.{listing_workload, at_first}
use Rattle.examples.proofs.Facts.{above_cases, leaves_one, leaves_only}

abbrev pub tallies : Kind ℤ
tallies = record { codes = tally_codes; act = tally_act }

-- what holds of 0, 1, 2 and all later numbers holds of each
pub each : (P : ℕ → Type 0) → P 0 → P 1 → P 2 → ((x : ℕ) → P (suc (suc (suc x)))) → (x : ℕ) → P x
each P a b c d zero = a
each P a b c d (suc zero) = b
each P a b c d (suc (suc zero)) = c
each P a b c d (suc (suc (suc x))) = d x

-- a set of items, by whether it has 0, 1 and 2
abbrev pub items : Bool → Bool → Bool → ℕ → Bool
items a b c zero = a
items a b c (suc zero) = b
items a b c (suc (suc zero)) = c
items a b c (suc (suc (suc x))) = false

-- an unfinished job whose begin awaits its collect
abbrev pub job : (type state : ℕ) → Bool → ℤ → (held ever done : ℕ → Bool) → Job
job t s w p h l u =
    record {
      type = t;
      state = s;
      has_worked = w;
      register = p;
      held = h;
      ever_locked = l;
      done = u;
      has_finished = false;
      awaited = true;
    }

abbrev pub seats : Option Job → Option Job → Option Job → ℕ → Option Job
seats a b c zero = a
seats a b c (suc zero) = b
seats a b c (suc (suc zero)) = c
seats a b c (suc (suc (suc q))) = none

-- a table with what stands at its first three places
abbrev pub table : List ℤ → Option Job → Option Job → Option Job → Table ℤ
table vs a b c = record { values = vs; places = seats a b c }

-- ---- sets that differ in one item

-- the sets agree on all items past 2
abbrev Agree : (a b : ℕ → Bool) → Type 0
Agree a b = (x : ℕ) → b (suc (suc (suc x))) ≡ a (suc (suc (suc x)))

module _ (a b : ℕ → Bool) where
  pub but_zero : b 1 ≡ a 1 → b 2 ≡ a 2 → Agree a b → (x : ℕ) → ¬ (x ≡ 0) → b x ≡ a x
  but_zero e f g =
      each (λ x. ¬ (x ≡ 0) → b x ≡ a x) (λ n. absurd (n refl)) (λ n. e) (λ n. f) (λ x n. g x)

  pub but_one : b 0 ≡ a 0 → b 2 ≡ a 2 → Agree a b → (x : ℕ) → ¬ (x ≡ 1) → b x ≡ a x
  but_one e f g =
      each (λ x. ¬ (x ≡ 1) → b x ≡ a x) (λ n. e) (λ n. absurd (n refl)) (λ n. f) (λ x n. g x)

  pub but_two : b 0 ≡ a 0 → b 1 ≡ a 1 → Agree a b → (x : ℕ) → ¬ (x ≡ 2) → b x ≡ a x
  but_two e f g =
      each (λ x. ¬ (x ≡ 2) → b x ≡ a x) (λ n. e) (λ n. f) (λ n. absurd (n refl)) (λ x n. g x)

-- ---- what is wanted

-- a job that has not locked its local root wants that
pub wants_root
    : (J : Job) (r : ℕ) → LocalRoot listing_workload J.type r → Above listing_workload r (item_of listing_workload J)
    → J.ever_locked r ≡ false → Wanted listing_workload J r
wants_root J r l a e =
    record {
      root = r;
      is_root = l;
      below_root = self;
      on_the_way = a;
      never_locked = e;
      first = λ x g h n. absurd (n (meet x (above_cases h) (above_cases g)));
    }
  where
    meet : (x : ℕ) → (x ≡ r) ⊎ (x ≡ 0) → (r ≡ x) ⊎ (r ≡ 0) → x ≡ r
    meet x (inl e) f = e
    meet x (inr e) (inl f) = sym f
    meet x (inr e) (inr f) = e ∙ sym f

-- a job that has locked the root of the tree as its local root, and not what its state names, wants that
pub wants_named
    : (J : Job) → LocalRoot listing_workload J.type 0 → Above listing_workload 0 (item_of listing_workload J)
    → J.ever_locked 0 ≡ true → J.ever_locked (item_of listing_workload J) ≡ false
    → Wanted listing_workload J (item_of listing_workload J)
wants_named J l a e f =
    record {
      root = 0;
      is_root = l;
      below_root = a;
      on_the_way = self;
      never_locked = f;
      first = λ x g h n. locked x n (above_cases h);
    }
  where
    locked
        : (x : ℕ) → ¬ (x ≡ item_of listing_workload J) → (x ≡ item_of listing_workload J) ⊎ (x ≡ 0)
        → J.ever_locked x ≡ true
    locked x n (inl g) = absurd (n g)
    locked x n (inr g) = subst (λ (y : ℕ). J.ever_locked y ≡ true) (sym g) e

-- ---- who holds what

abbrev pub has : Option Job → ℕ → Bool
has none d = false
has (some J) d = J.held d

unheld : (x : Option Job) (d : ℕ) → has x d ≡ false → (J : Job) → x ≡ some J → J.held d ≡ true → ⊥
unheld none d e J f h = none_some f
unheld (some I) d e J f h = clash (ap (λ (I : Job). I.held d) (some_same f) ∙ h) e

pub nobody
    : (vs : List ℤ) (a b c : Option Job) (d : ℕ) → has a d ≡ false → has b d ≡ false → has c d ≡ false
    → (q : ℕ) → ¬ HoldsAt (table vs a b c) q d
nobody vs a b c d e f g =
    each (λ q. ¬ HoldsAt (table vs a b c) q d) (λ h. unheld a d e h.0 h.1 h.2) (λ h. unheld b d f h.0 h.1 h.2)
    (λ h. unheld c d g h.0 h.1 h.2) (λ q h. none_some h.1)

-- the done set after the arc of the first type: the item 1
pub done_one : WithAll (λ x. false) (Unlockable listing_workload 0 1) (items false true false)
done_one =
    each (λ x. (items false true false x ≡ true) ↔ ((false ≡ true) ⊎ Unlockable listing_workload 0 1 x))
    (other 0 (λ e. absurd (omega arith))) (λ e. inr leaves_one, λ u. refl) (other 2 (λ e. absurd (omega arith)))
    (λ x. other (suc (suc (suc x))) (λ e. absurd (omega arith)))
  where
    other : (x : ℕ) → ¬ (x ≡ 1) → (false ≡ true) ↔ ((false ≡ true) ⊎ Unlockable listing_workload 0 1 x)
    other x n = (λ e. inl e, λ u. elim u [ inl e ↦ e | inr l ↦ absurd (n (leaves_only x l)) ])

-- ---- calls at the three places

module _ (vs : List ℤ) (a b c x : Option Job) (vs' : List ℤ) where
  first_placed : Placed (table vs a b c) 0 x (table vs' x b c)
  first_placed =
      record {
        there = refl;
        elsewhere = each (λ q. ¬ (q ≡ 0) → seats x b c q ≡ seats a b c q) (λ n. absurd (n refl)) (λ n. refl) (λ n. refl)
            (λ q n. refl);
      }

  second_placed : Placed (table vs a b c) 1 x (table vs' a x c)
  second_placed =
      record {
        there = refl;
        elsewhere = each (λ q. ¬ (q ≡ 1) → seats a x c q ≡ seats a b c q) (λ n. refl) (λ n. absurd (n refl)) (λ n. refl)
            (λ q n. refl);
      }

  third_placed : Placed (table vs a b c) 2 x (table vs' a b x)
  third_placed =
      record {
        there = refl;
        elsewhere = each (λ q. ¬ (q ≡ 2) → seats a b x q ≡ seats a b c q) (λ n. refl) (λ n. refl) (λ n. absurd (n refl))
            (λ q n. refl);
      }

-- the call, answered so, leads from the one table to the other
abbrev pub Leads : Table ℤ → Call → Answer → Table ℤ → Type 0
Leads m c a n = Moves listing_workload tallies m c a n

-- a job begins at a free place
module _ (vs : List ℤ) (t : ℕ) (a : ℤ) (fits : 3 ≤ length vs) (is_type : t < 3) (y z : Option Job) where
  pub first_begins : Leads (table vs none y z) (begin 0 t a) began (table vs (some (new_job t a)) y z)
  first_begins =
      begins 0 t a (table vs (some (new_job t a)) y z) (fits, omega arith) (omega arith) is_type refl refl
      (first_placed vs none y z (some (new_job t a)) vs)

  pub second_begins : Leads (table vs y none z) (begin 1 t a) began (table vs y (some (new_job t a)) z)
  second_begins =
      begins 1 t a (table vs y (some (new_job t a)) z) (fits, omega arith) (omega arith) is_type refl refl
      (second_placed vs y none z (some (new_job t a)) vs)

  pub third_begins : Leads (table vs y z none) (begin 2 t a) began (table vs y z (some (new_job t a)))
  third_begins =
      begins 2 t a (table vs y z (some (new_job t a))) (fits, omega arith) (omega arith) is_type refl refl
      (third_placed vs y z none (some (new_job t a)) vs)

-- one step of the job J, over the table m
abbrev pub Does : Table ℤ → Job → Told → List ℤ → Job → Type 0
Does m J t vs J' = Steps listing_workload tallies (HoldsAt m) m.values J t vs J'

-- the job J steps at its place
module _ (vs vs' : List ℤ) (J J' : Job) (t : Told) (f : J.has_finished ≡ false) (y z : Option Job) where
  pub first_steps
      : Does (table vs (some J) y z) J t vs' J'
      → Leads (table vs (some J) y z) (step 0) (told t) (table vs' (seat J') y z)
  first_steps s =
      steps 0 J J' t (table vs' (seat J') y z) (omega arith) refl f s (first_placed vs (some J) y z (seat J') vs')

  pub second_steps
      : Does (table vs y (some J) z) J t vs' J'
      → Leads (table vs y (some J) z) (step 1) (told t) (table vs' y (seat J') z)
  second_steps s =
      steps 1 J J' t (table vs' y (seat J') z) (omega arith) refl f s (second_placed vs y (some J) z (seat J') vs')

  pub third_steps
      : Does (table vs y z (some J)) J t vs' J'
      → Leads (table vs y z (some J)) (step 2) (told t) (table vs' y z (seat J'))
  third_steps s =
      steps 2 J J' t (table vs' y z (seat J')) (omega arith) refl f s (third_placed vs y z (some J) (seat J') vs')

-- the finished job J is collected
module _ (vs : List ℤ) (J : Job) (w : J.awaited ≡ true) (f : J.has_finished ≡ true) (y z : Option Job) where
  pub first_collects : Leads (table vs (some J) y z) (collect 0) (collected J.register) (table vs none y z)
  first_collects = collects 0 J (table vs none y z) refl w f refl (first_placed vs (some J) y z none vs)

  pub second_collects : Leads (table vs y (some J) z) (collect 1) (collected J.register) (table vs y none z)
  second_collects = collects 1 J (table vs y none z) refl w f refl (second_placed vs y (some J) z none vs)

  pub third_collects : Leads (table vs y z (some J)) (collect 2) (collected J.register) (table vs y z none)
  third_collects = collects 2 J (table vs y z none) refl w f refl (third_placed vs y z (some J) none vs)

-- a call more
pub on
    : {es : List Event} {m n : Table ℤ} {c : Call} {a : Answer} → Reached listing_workload tallies at_first es m
    → Leads m c a n → Reached listing_workload tallies at_first (record { call = c; answer = a } ∷ es) n
on {es} {m} {n} {c} {a} r mv = next es m n c a r mv
