-- Rows that take over what others hold, until they hold all that is ahead of them.
use Rattle.std.proofs.Common.{◌≡◌, ℕ, ◌+◌, ◌-◌, ◌<◌, ◌⊎◌, Bool, true, false, not, ◌&&◌, ◌||◌, eqb, List, Option, Some, None, MatchOption, length, get_or, set, get_or-set_same, get_or-set_other, Decides, sym, refl, ap, ◌∙◌, subst, inl, inr, arith}
use Rattle.std.specs.Option.{is_some}
use Rattle.std.proofs.lemmas.Bool.{and_from, and_parts, both_ways, cases_Bool, cases_eq, eqb-true, false≢true, not-false, not-true, not_from_false, or_cases, or_left, or_right, true≢false}
use Rattle.itemset.specs.declared.ItemSet.{ItemSet}
use Rattle.itemset.specs.Members.{holds, nothing}
use Rattle.rules.specs.declared.closure.Order.{Order}
use Rattle.rules.specs.declared.closure.Order.TheVariants.{Up, Down}
use Rattle.rules.specs.Reach.{Ahead, Gains, HeldBy, Joined, Keeps, Pulls, Reaches, TakesOver, here, step, turn}
use Rattle.rules.specs.Sets.{Exactly}
use Rattle.rules.proofs.Members.{Done, done_before, done_now, done_still, left_within}
use Rattle.rules.proofs.Rows.{reaches_on}

-- of the set's numbers some are done, and what their rows hold is held
pub record Gathers (rows : List ItemSet) (set rest held : ItemSet) : Type 0 where
  pub within : (m : ℕ) → holds rest m ≡ true → holds set m ≡ true
  pub each : (t : ℕ) → Decides (holds held t) ((m : ℕ) × Done set rest m × Joined rows m t)

module _ (rows : List ItemSet) (set rest left held more : ItemSet) (d : ℕ) (G : Gathers rows set rest held) (next : holds rest d ≡ true)
    (e : (m : ℕ) → holds left m ≡ (holds rest m && not (eqb m d))) (took : (t : ℕ) → Decides (holds more t) ((holds held t ≡ true) ⊎ Joined rows d t)) where
  pub gathers_more : Gathers rows set left more
  gathers_more = record { within = left_within set rest left d G.within next e; each = λ t. (to t, from t) }
    where
      to : (t : ℕ) → holds more t ≡ true → (m : ℕ) × Done set left m × Joined rows m t
      to t h = elim ((took t).0 h) [
        | inl i ↦ (let q = (G.each t).0 i in (q.0, done_still set rest left d G.within next e q.0 q.1, q.2))
        | inr j ↦ (d, done_now set rest left d G.within next e, j)
      ]

      from : (t : ℕ) → (m : ℕ) × Done set left m × Joined rows m t → holds more t ≡ true
      from t q = elim (done_before set rest left d G.within next e q.0 q.1) [
        | inl i ↦ (took t).1 (inl ((G.each t).1 (q.0, i, q.2)))
        | inr s ↦ (took t).1 (inr (subst (λ (x : ℕ). Joined rows x t) s q.2))
      ]

-- the lowest number of a set that has one
pub lowest_of
    : (x : ItemSet) (r : Option ℕ) → MatchOption r ((e : ℕ) → holds x e ≡ false) (λ d. (holds x d ≡ true) × ((e : ℕ) → e < d → holds x e ≡ false) × (d < 64)) → is_some r ≡ true
    → (t : ℕ) × (t < 64) × (holds x t ≡ true)
lowest_of x None h e = absurd (false≢true e)
lowest_of x (Some d) h e = (d, h.2, h.0)

-- a row that lacked something takes it over
pub takes_over
    : (old : List ItemSet) (s : ℕ) (given news row : ItemSet) → s < length old
    → ((t : ℕ) → holds news t ≡ (holds given t && not (holds (get_or old s nothing) t))) → ((t : ℕ) → holds row t ≡ (holds (get_or old s nothing) t || holds news t))
    → (t : ℕ) × (t < 64) × (holds news t ≡ true) → TakesOver old (set old s row) s given true
takes_over old s given news row l n u w =
    record {
      kept = kept;
      only = only;
      took = took;
      quiet = λ e. absurd (true≢false e);
      loud = λ e. let q = and_parts (holds given w.0) (not (holds (get_or old s nothing) w.0)) (sym (n w.0) ∙ w.2) in
          (s, w.0, w.1, here s refl w.0 (u w.0 ∙ or_right (holds (get_or old s nothing) w.0) (holds news w.0) w.2), both_ways _ (not-true (holds (get_or old s nothing) w.0) q.1));
    }
  where
    here : (r : ℕ) → r ≡ s → (t : ℕ) → holds row t ≡ true → Joined (set old s row) r t
    here r e t h = subst (λ (x : ItemSet). holds x t ≡ true) (sym (ap (λ (i : ℕ). get_or (set old s row) i nothing) e ∙ get_or-set_same old s row nothing l)) h

    kept : Keeps old (set old s row)
    kept r t j = elim (cases_eq r s) [
      | inl e ↦ here r e t (u t ∙ or_left (holds (get_or old s nothing) t) (holds news t) (subst (λ (i : ℕ). Joined old i t) e j))
      | inr ne ↦ subst (λ (x : ItemSet). holds x t ≡ true) (sym (get_or-set_other old s r row nothing ne)) j
    ]

    took : (t : ℕ) → holds given t ≡ true → Joined (set old s row) s t
    took t q = here s refl t (u t ∙ elim (cases_Bool (holds (get_or old s nothing) t)) [
      | inl y ↦ or_left (holds (get_or old s nothing) t) (holds news t) y
      | inr f ↦ or_right (holds (get_or old s nothing) t) (holds news t) (n t ∙ and_from (holds given t) (not (holds (get_or old s nothing) t)) q (not_from_false (holds (get_or old s nothing) t) f))
    ])

    only : (r t : ℕ) → Joined (set old s row) r t → Joined old r t ⊎ ((r ≡ s) × (holds given t ≡ true))
    only r t j = elim (cases_eq r s) [
      | inl e ↦ elim (or_cases (holds (get_or old s nothing) t) (holds news t) (sym (u t) ∙ subst (λ (x : ItemSet). holds x t ≡ true) (ap (λ (i : ℕ). get_or (set old s row) i nothing) e ∙ get_or-set_same old s row nothing l) j)) [
        | inl a ↦ inl (subst (λ (i : ℕ). Joined old i t) (sym e) a)
        | inr b ↦ inr (e, (and_parts (holds given t) (not (holds (get_or old s nothing) t)) (sym (n t) ∙ b)).0)
      ]
      | inr ne ↦ inl (subst (λ (x : ItemSet). holds x t ≡ true) (get_or-set_other old s r row nothing ne) j)
    ]

-- the turn of m came before that of others, of which k had theirs
abbrev pub Before : Order → ℕ → ℕ → ℕ → Type 0
Before order n k m = (i : ℕ) × (i < k) × (m ≡ turn order n i)

-- the row of each number of the first k turns lacks nothing that the rows hold to which E joins it
abbrev pub Rested : (ℕ → ℕ → Type 0) → Order → ℕ → List ItemSet → ℕ → Type 0
Rested E order n rows k = (j : ℕ) → j < k → (m t : ℕ) → E (turn order n j) m → Joined rows m t → Joined rows (turn order n j) t

-- k of n numbers had their turn; those in `seen`
pub record Turns (E : ℕ → ℕ → Type 0) (first rows : List ItemSet) (order : Order) (n k : ℕ) (seen : ItemSet) (news ordered : Bool) : Type 0 where
  pub long : length rows ≡ length first
  pub kept : Keeps first rows
  pub only : (s t : ℕ) → Joined rows s t → Ahead E first s t
  pub were : (m : ℕ) → holds seen m ≡ true → Before order n k m
  pub quiet : news ≡ false → (rows ≡ first) × Rested E order n first k
  pub steady : ordered ≡ true → ((j : ℕ) → j < k → (m : ℕ) → E (turn order n j) m → Before order n j m) × Rested E order n rows k
  pub loud : news ≡ true → Gains first rows

pub turns_none : (E : ℕ → ℕ → Type 0) (first : List ItemSet) (order : Order) (n : ℕ) (seen : ItemSet) → ((m : ℕ) → holds seen m ≡ false) → Turns E first first order n 0 seen false true
turns_none E first order n seen none =
    record {
      long = refl;
      kept = λ s t h. h;
      only = λ s t h. (s, here, h);
      were = λ m h. absurd (both_ways (holds seen m) (none m) h);
      quiet = λ e. (refl, λ j l. absurd (omega arith));
      steady = λ e. (λ j l. absurd (omega arith), λ j l. absurd (omega arith));
      loud = λ e. absurd (false≢true e);
    }

pub turn_within : (order : Order) (n k : ℕ) → k < n → turn order n k < n
turn_within Up n k l = l
turn_within Down n k l = omega arith

-- each number has one turn
one_turn : (order : Order) (n i k : ℕ) → i < k → k < n → turn order n i ≡ turn order n k → ⊥
one_turn Up n i k l h e = absurd (omega arith)
one_turn Down n i k l h e = absurd (omega arith)

module _ (along first old new : List ItemSet) (order : Order) (n k s : ℕ) (within : k < n) (its : s ≡ turn order n k) (seen later : ItemSet)
    (put : (m : ℕ) → holds later m ≡ (holds seen m || eqb m s)) (before ordered : Bool) (T : Turns (Joined along) first old order n k seen before ordered)
    (same : length new ≡ length old) (held : ItemSet) (are : Exactly held (HeldBy old (get_or along s nothing))) (b : Bool) (w : TakesOver old new s held b) where
  only_ahead : (r t : ℕ) → Joined new r t → Ahead (Joined along) first r t
  only_ahead r t h = elim (w.only r t h) [
    | inl j ↦ T.only r t j
    | inr q ↦ (let g = (are t).0 q.1 in let a = T.only g.0 t g.2 in (a.0, step (subst (λ (x : ℕ). Joined along x g.0) (sym q.0) g.1) a.1, a.2))
  ]

  now_before : (m : ℕ) → holds later m ≡ true → Before order n (k + 1) m
  now_before m h = elim (or_cases (holds seen m) (eqb m s) (sym (put m) ∙ h)) [
    | inl a ↦ (let q = T.were m a in (q.0, omega (arith, q.1), q.2))
    | inr e ↦ (k, omega arith, eqb-true m s e ∙ its)
  ]

  -- the row of a number whose turn came before is as it was
  unmoved : (m t : ℕ) → Before order n k m → Joined new m t → Joined old m t
  unmoved m t q h = elim (w.only m t h) [
    | inl j ↦ j
    | inr r ↦ absurd (one_turn order n q.0 k q.1 within (sym q.2 ∙ r.0 ∙ its))
  ]

  -- row s has no more than at first, where it lacked nothing and there was no news before
  at_rest : b ≡ false → before ≡ false → (m t : ℕ) → Joined along s m → Joined first m t → Joined first s t
  at_rest e f m t a h =
      let same_rows : new ≡ first = w.quiet e ∙ (T.quiet f).0 in
      subst (λ (xs : List ItemSet). Joined xs s t) same_rows (w.took t ((are t).1 (m, a, subst (λ (xs : List ItemSet). Joined xs m t) (sym (T.quiet f).0) h)))

  -- what is said of each of k turns and of this one is said of each of k + 1
  and_now : (P : ℕ → ℕ → Type 0) → ((j : ℕ) → j < k → P j (turn order n j)) → P k s → (j : ℕ) → j < k + 1 → P j (turn order n j)
  and_now P all this j l = elim (cases_eq j k) [
    | inl e ↦ subst (λ (i : ℕ). P i (turn order n i)) (sym e) (subst (P k) its this)
    | inr ne ↦ all j (omega arith)
  ]

  module _ (after : Bool) (h : after ≡ true → (ordered ≡ true) × ((m : ℕ) → Joined along s m → holds seen m ≡ true)) where
    is_steady : after ≡ true → ((j : ℕ) → j < k + 1 → (m : ℕ) → Joined along (turn order n j) m → Before order n j m) × Rested (Joined along) order n new (k + 1)
    is_steady e =
        let o = h e in
        let S = T.steady o.0 in
        let earlier : (m : ℕ) → Joined along s m → Before order n k m = λ m a. T.were m (o.1 m a) in (
          and_now (λ j x. (m : ℕ) → Joined along x m → Before order n j m) S.0 earlier,
          and_now (λ j x. (m t : ℕ) → Joined along x m → Joined new m t → Joined new x t)
              (λ j l m t a g. let q = S.0 j l m a in w.kept (turn order n j) t (S.1 j l m t a (unmoved m t (q.0, omega (arith, q.1), q.2) g)))
              (λ m t a g. w.took t ((are t).1 (m, a, unmoved m t (earlier m a) g))),
        )

    pub turns_loud : b ≡ true → Turns (Joined along) first new order n (k + 1) later true after
    turns_loud e =
        record {
          long = same ∙ T.long;
          kept = λ r t j. w.kept r t (T.kept r t j);
          only = only_ahead;
          were = now_before;
          quiet = λ f. absurd (true≢false f);
          steady = is_steady;
          loud = λ f. let g = w.loud e in (g.0, g.1, g.2, g.3, λ j. g.4 (T.kept g.0 g.1 j));
        }

    pub turns_quiet : b ≡ false → Turns (Joined along) first new order n (k + 1) later before after
    turns_quiet e =
        record {
          long = same ∙ T.long;
          kept = λ r t j. w.kept r t (T.kept r t j);
          only = only_ahead;
          were = now_before;
          quiet = λ f. (
            w.quiet e ∙ (T.quiet f).0,
            and_now (λ j x. (m t : ℕ) → Joined along x m → Joined first m t → Joined first x t) (T.quiet f).1 (at_rest e f),
          );
          steady = is_steady;
          loud = λ f. subst (λ (xs : List ItemSet). Gains first xs) (sym (w.quiet e)) (T.loud f);
        }

-- each number has its turn
pub its_turn : (order : Order) (n s : ℕ) → s < n → (j : ℕ) × (j < n) × (turn order n j ≡ s)
its_turn Up n s l = (s, l, refl)
its_turn Down n s l = (n - 1 - s, omega arith, omega arith)

module _ (E : ℕ → ℕ → Type 0) (first rows : List ItemSet) (order : Order) (n : ℕ) (seen : ItemSet) (news ordered : Bool) (within : (s m : ℕ) → E s m → s < n)
    (T : Turns E first rows order n n seen news ordered) where
  rested : (xs : List ItemSet) → Rested E order n xs n → (s m t : ℕ) → E s m → Joined xs m t → Joined xs s t
  rested xs R s m t a =
      let j = its_turn order n s (within s m a) in
      subst (λ (x : ℕ). E x m → Joined xs m t → Joined xs x t) j.2 (R j.0 j.1 m t) a

  pub pulled_quiet : news ≡ false → Pulls E first rows false
  pulled_quiet e =
      record {
        kept = T.kept;
        only = T.only;
        quiet = λ f. rested rows (let q = T.quiet e in subst (λ (xs : List ItemSet). Rested E order n xs n) (sym q.0) q.1);
        loud = λ f. absurd (false≢true f);
      }

  pub pulled_news : news ≡ true → Pulls E first rows (not ordered)
  pulled_news e =
      record { kept = T.kept; only = T.only; quiet = λ f. rested rows (T.steady (not-false ordered f)).1; loud = λ f. T.loud e }

-- rows that took over nothing but what is ahead of them
pub record Spreads (E : ℕ → ℕ → Type 0) (first rows : List ItemSet) : Type 0 where
  pub long : length rows ≡ length first
  pub kept : Keeps first rows
  pub only : (s t : ℕ) → Joined rows s t → Ahead E first s t

pub spreads_none : (E : ℕ → ℕ → Type 0) (first : List ItemSet) → Spreads E first first
spreads_none E first = record { long = refl; kept = λ s t h. h; only = λ s t h. (s, here, h) }

pub spreads_more : (E : ℕ → ℕ → Type 0) (first old new : List ItemSet) (news : Bool) → length new ≡ length old → Spreads E first old → Pulls E old new news → Spreads E first new
spreads_more E first old new news e S w =
    record {
      long = e ∙ S.long;
      kept = λ s t h. w.kept s t (S.kept s t h);
      only = λ s t h. let a = w.only s t h in let b = S.only a.0 t a.2 in (b.0, reaches_on a.1 b.1, b.2);
    }

-- once no row lacks anything of those that it comes to, each holds all that is ahead of it
pub spread_all : (E : ℕ → ℕ → Type 0) (first rows : List ItemSet) → Spreads E first rows → ((s m t : ℕ) → E s m → Joined rows m t → Joined rows s t)
    → (s t : ℕ) → Decides (holds (get_or rows s nothing) t) (Ahead E first s t)
spread_all E first rows S closed s t = (S.only s t, λ a. on a.1 (S.kept a.0 t a.2))
  where
    on : {r m : ℕ} → Reaches E r m → Joined rows m t → Joined rows r t
    on here h = h
    on (step {s = r} {m = m} e p) h = closed r m t e (on p h)

-- what is ahead of rows that took over nothing else is what was ahead of them at first
pub ahead_still : (E : ℕ → ℕ → Type 0) (first rows : List ItemSet) → Spreads E first rows → (s : ℕ) (x : ItemSet) → Exactly x (Ahead E rows s) → Exactly x (Ahead E first s)
ahead_still E first rows S s x h t = (
  λ i. let a = (h t).0 i in let b = S.only a.0 t a.2 in (b.0, reaches_on a.1 b.1, b.2),
  λ a. (h t).1 (a.0, a.1, S.kept a.0 t a.2),
)
