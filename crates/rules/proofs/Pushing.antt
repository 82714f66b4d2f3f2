-- Rows that give what they hold to those of the numbers that a relation joins theirs to.
use Rattle.std.proofs.Common.{◌≡◌, ℕ, ◌+◌, ◌<◌, Bool, true, false, not, ◌&&◌, eqb, ◌⊎◌, List, length, get_or, sym, refl, ◌∙◌, subst, inl, inr, arith}
use Rattle.std.proofs.lemmas.Bool.{cases_eq, cases_lt, false≢true, not-false, true≢false}
use Rattle.itemset.specs.declared.ItemSet.{ItemSet}
use Rattle.itemset.specs.Members.{holds, nothing}
use Rattle.rules.specs.Reach.{Ahead, Converse, Gains, Gives, Joined, Keeps, Pulls, TakesOver, here, step}
use Rattle.rules.specs.Sets.{Exactly}
use Rattle.rules.proofs.Members.{Done, done_before, left_within}

gains_on : (first old new : List ItemSet) → Keeps first old → Gains old new → Gains first new
gains_on first old new k g = (g.0, g.1, g.2, g.3, λ j. g.4 (k g.0 g.1 j))

-- of the numbers some are done, and their rows took over what the set holds
pub record Giving (first rows : List ItemSet) (numbers rest set : ItemSet) (news : Bool) : Type 0 where
  pub within : (m : ℕ) → holds rest m ≡ true → holds numbers m ≡ true
  pub long : length rows ≡ length first
  pub kept : Keeps first rows
  pub only : (r t : ℕ) → Joined rows r t → Joined first r t ⊎ ((holds numbers r ≡ true) × (holds set t ≡ true))
  pub took : (r t : ℕ) → Done numbers rest r → holds set t ≡ true → Joined rows r t
  pub quiet : news ≡ false → rows ≡ first
  pub loud : news ≡ true → Gains first rows

pub giving_none : (first : List ItemSet) (numbers set : ItemSet) → Giving first first numbers numbers set false
giving_none first numbers set =
    record {
      within = λ m h. h;
      long = refl;
      kept = λ r t h. h;
      only = λ r t h. inl h;
      took = λ r t d. absurd (true≢false (sym d.inside ∙ d.gone));
      quiet = λ e. refl;
      loud = λ e. absurd (false≢true e);
    }

module _ (first old new : List ItemSet) (numbers rest left set : ItemSet) (d : ℕ) (before : Bool) (G : Giving first old numbers rest set before) (next : holds rest d ≡ true)
    (e : (m : ℕ) → holds left m ≡ (holds rest m && not (eqb m d))) (same : length new ≡ length old) (b : Bool) (w : TakesOver old new d set b) where
  only_given : (r t : ℕ) → Joined new r t → Joined first r t ⊎ ((holds numbers r ≡ true) × (holds set t ≡ true))
  only_given r t h = elim (w.only r t h) [
    | inl j ↦ G.only r t j
    | inr q ↦ inr (subst (λ (x : ℕ). holds numbers x ≡ true) (sym q.0) (G.within d next), q.1)
  ]

  now_took : (r t : ℕ) → Done numbers left r → holds set t ≡ true → Joined new r t
  now_took r t q h = elim (done_before numbers rest left d G.within next e r q) [
    | inl i ↦ w.kept r t (G.took r t i h)
    | inr s ↦ subst (λ (x : ℕ). Joined new x t) (sym s) (w.took t h)
  ]

  pub giving_loud : b ≡ true → Giving first new numbers left set true
  giving_loud f =
      record {
        within = left_within numbers rest left d G.within next e;
        long = same ∙ G.long;
        kept = λ r t j. w.kept r t (G.kept r t j);
        only = only_given;
        took = now_took;
        quiet = λ g. absurd (true≢false g);
        loud = λ g. gains_on first old new G.kept (w.loud f);
      }

  pub giving_quiet : b ≡ false → Giving first new numbers left set before
  giving_quiet f =
      record {
        within = left_within numbers rest left d G.within next e;
        long = same ∙ G.long;
        kept = λ r t j. w.kept r t (G.kept r t j);
        only = only_given;
        took = now_took;
        quiet = λ g. w.quiet f ∙ G.quiet g;
        loud = λ g. subst (λ (xs : List ItemSet). Gains first xs) (sym (w.quiet f)) (G.loud g);
      }

-- once none is left
pub giving_all
    : (first rows : List ItemSet) (numbers rest set : ItemSet) (news : Bool) → Giving first rows numbers rest set news → ((e : ℕ) → holds rest e ≡ false)
    → Gives first rows numbers set news
giving_all first rows numbers rest set news G none =
    record {
      kept = G.kept;
      only = G.only;
      took = λ r t i h. G.took r t (record { inside = i; gone = none r }) h;
      quiet = G.quiet;
      loud = G.loud;
    }

-- each of the first k numbers gave what its row holds
abbrev pub Given : (ℕ → ℕ → Type 0) → List ItemSet → ℕ → Type 0
Given E rows k = (j : ℕ) → j < k → (m t : ℕ) → E j m → Joined rows j t → Joined rows m t

-- k numbers had their turn; they are in `seen`
pub record Pushes (E : ℕ → ℕ → Type 0) (first rows : List ItemSet) (k : ℕ) (seen : ItemSet) (news ordered : Bool) : Type 0 where
  pub long : length rows ≡ length first
  pub kept : Keeps first rows
  pub only : (r t : ℕ) → Joined rows r t → Ahead (Converse E) first r t
  pub were : (m : ℕ) → m < k → holds seen m ≡ true
  pub quiet : news ≡ false → (rows ≡ first) × Given E first k
  pub steady : ordered ≡ true → ((j : ℕ) → j < k → (m : ℕ) → E j m → j < m) × Given E rows k
  pub loud : news ≡ true → Gains first rows

pub pushes_none : (E : ℕ → ℕ → Type 0) (first : List ItemSet) (seen : ItemSet) → Pushes E first first 0 seen false true
pushes_none E first seen =
    record {
      long = refl;
      kept = λ r t h. h;
      only = λ r t h. (r, here, h);
      were = λ m l. absurd (omega arith);
      quiet = λ e. (refl, λ j l. absurd (omega arith));
      steady = λ e. (λ j l. absurd (omega arith), λ j l. absurd (omega arith));
      loud = λ e. absurd (false≢true e);
    }

-- what is said of each of k numbers and of the next is said of each of k + 1
and_next : (P : ℕ → Type 0) (k : ℕ) → ((j : ℕ) → j < k → P j) → P k → (j : ℕ) → j < k + 1 → P j
and_next P k all this j l = elim (cases_eq j k) [ inl e ↦ subst P (sym e) this | inr ne ↦ all j (omega arith) ]

module _ (along first old new : List ItemSet) (k : ℕ) (seen later : ItemSet) (put : (m : ℕ) → m < k + 1 → holds later m ≡ true) (before ordered : Bool) (T : Pushes (Joined along) first old k seen before ordered)
    (same : length new ≡ length old) (b : Bool) (w : Gives old new (get_or along k nothing) (get_or old k nothing) b) where
  only_ahead : (r t : ℕ) → Joined new r t → Ahead (Converse (Joined along)) first r t
  only_ahead r t h = elim (w.only r t h) [
    | inl j ↦ T.only r t j
    | inr q ↦ (let a = T.only k t q.1 in (a.0, step q.0 a.1, a.2))
  ]

  -- where there was no news before and is none now, the number gave what it holds
  at_rest : b ≡ false → before ≡ false → (m t : ℕ) → Joined along k m → Joined first k t → Joined first m t
  at_rest e f m t a h =
      let same_rows : new ≡ first = w.quiet e ∙ (T.quiet f).0 in
      subst (λ (xs : List ItemSet). Joined xs m t) same_rows (w.took m t a (subst (λ (xs : List ItemSet). Joined xs k t) (sym (T.quiet f).0) h))

  module _ (after : Bool) (h : after ≡ true → (ordered ≡ true) × ((m : ℕ) → Joined along k m → holds later m ≡ true → ⊥)) where
    is_steady : after ≡ true → ((j : ℕ) → j < k + 1 → (m : ℕ) → Joined along j m → j < m) × Given (Joined along) new (k + 1)
    is_steady e = (higher, and_next (λ j. (m t : ℕ) → Joined along j m → Joined new j t → Joined new m t) k still now)
      where
        o : (ordered ≡ true) × ((m : ℕ) → Joined along k m → holds later m ≡ true → ⊥)
        o = h e

        higher : (j : ℕ) → j < k + 1 → (m : ℕ) → Joined along j m → j < m
        higher = and_next (λ j. (m : ℕ) → Joined along j m → j < m) k (T.steady o.0).0 (λ m a. above m (o.1 m a))
          where
            above : (m : ℕ) → (holds later m ≡ true → ⊥) → k < m
            above m n = elim (cases_lt k m) [ inl l ↦ l | inr l ↦ absurd (n (put m (omega arith))) ]

        -- the row of a number that had its turn is as it was
        unmoved : (j t : ℕ) → j < k + 1 → Joined new j t → Joined old j t
        unmoved j t l g = elim (w.only j t g) [ inl i ↦ i | inr q ↦ absurd (let x = higher k (omega arith) j q.0 in omega arith) ]

        still : (j : ℕ) → j < k → (m t : ℕ) → Joined along j m → Joined new j t → Joined new m t
        still j l m t a g = w.kept m t ((T.steady o.0).1 j l m t a (unmoved j t (omega arith) g))

        now : (m t : ℕ) → Joined along k m → Joined new k t → Joined new m t
        now m t a g = w.took m t a (unmoved k t (omega arith) g)

    pub pushes_loud : b ≡ true → Pushes (Joined along) first new (k + 1) later true after
    pushes_loud e =
        record {
          long = same ∙ T.long;
          kept = λ r t j. w.kept r t (T.kept r t j);
          only = only_ahead;
          were = put;
          quiet = λ f. absurd (true≢false f);
          steady = is_steady;
          loud = λ f. gains_on first old new T.kept (w.loud e);
        }

    pub pushes_quiet : b ≡ false → Pushes (Joined along) first new (k + 1) later before after
    pushes_quiet e =
        record {
          long = same ∙ T.long;
          kept = λ r t j. w.kept r t (T.kept r t j);
          only = only_ahead;
          were = put;
          quiet = λ f. (w.quiet e ∙ (T.quiet f).0, and_next (λ j. (m t : ℕ) → Joined along j m → Joined first j t → Joined first m t) k (T.quiet f).1 (at_rest e f));
          steady = is_steady;
          loud = λ f. subst (λ (xs : List ItemSet). Gains first xs) (sym (w.quiet e)) (T.loud f);
        }

module _ (E : ℕ → ℕ → Type 0) (first rows : List ItemSet) (n : ℕ) (seen : ItemSet) (news ordered : Bool) (within : (s m : ℕ) → E s m → s < n)
    (T : Pushes E first rows n seen news ordered) where
  pub pushed_quiet : news ≡ false → Pulls (Converse E) first rows false
  pushed_quiet e =
      record {
        kept = T.kept;
        only = T.only;
        quiet = λ f s m t a. let q = T.quiet e in subst (λ (xs : List ItemSet). Joined xs m t → Joined xs s t) (sym q.0) (q.1 m (within m s a) s t a);
        loud = λ f. absurd (false≢true f);
      }

  pub pushed_news : news ≡ true → Pulls (Converse E) first rows (not ordered)
  pushed_news e =
      record {
        kept = T.kept;
        only = T.only;
        quiet = λ f s m t a. (T.steady (not-false ordered f)).1 m (within m s a) s t a;
        loud = λ f. T.loud e;
      }

-- what the rows of the numbers below i handed on
abbrev pub Handed : List ItemSet → List ItemSet → ℕ → ℕ → ℕ → Type 0
Handed along rows i r t = (m : ℕ) × (m < i) × Joined along m r × Joined rows m t

pub handed_more
    : (along rows old new : List ItemSet) (i : ℕ) (b : Bool) → Gives old new (get_or along i nothing) (get_or rows i nothing) b → (r : ℕ)
    → Exactly (get_or old r nothing) (Handed along rows i r) → Exactly (get_or new r nothing) (Handed along rows (i + 1) r)
handed_more along rows old new i b w r h t = (to, from)
  where
    to : Joined new r t → Handed along rows (i + 1) r t
    to j = elim (w.only r t j) [ inl a ↦ (let q = (h t).0 a in (q.0, omega (arith, q.1), q.2, q.3)) | inr q ↦ (i, omega arith, q.0, q.1) ]

    from : Handed along rows (i + 1) r t → Joined new r t
    from q = elim (cases_eq q.0 i) [
      | inl e ↦ w.took r t (subst (λ (x : ℕ). Joined along x r) e q.2) (subst (λ (x : ℕ). Joined rows x t) e q.3)
      | inr ne ↦ w.kept r t ((h t).1 (q.0, omega (arith, q.1), q.2, q.3))
    ]
