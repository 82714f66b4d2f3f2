-- From the log of works to runs of the jobs alone.
use mathlib.Core.Path.{◌≡◌, refl, sym, ◌∙◌, subst, ap, ap₂}
use mathlib.Core.List.{List, [], ◌∷◌, ◌++◌, append_assoc}
use mathlib.Core.Logic.{◌⊎◌, inl, inr}
use mathlib.Core.Option.{Option, none, some}
use mathlib.Core.Bool.{Bool, true, false, cond}
use Prim.Native.Nat.{ℕ, zero, suc, ◌<◌}
use native.Mathlib.Omega.{arith}
use native.Mathlib.Decide.{ℕ_discrete}
use lib.IntN.{ℤ}
use lib.Dec.{eqb}
use lib.ListN.{get_elem?, set}
use Rattle.locking.specs.Lists.{Mem, Before, Distinct}
use Rattle.locking.specs.Serial.{Entry, of_job, until, serial, write, after}
use Rattle.locking.proofs.Lists.{by_test, eqb_same, same_eqb}
use Rattle.locking.proofs.Keep.{append_cases, append_left, append_right, keep_mem, keep_before}
use Rattle.model.specs.Workload.{Workload, Terminal, Takes}
use Rattle.model.specs.Table.{Kind, Works}
use Rattle.model.specs.Journal.{Work, work_of, Journal, Alone, stops, goes_on, OneByOne, none_left, then}
use Rattle.model.proofs.Job.{clash}

-- The operation of an entry of the log: the work, and the register after it.
pub record Operation : Type 0 where
  pub work : Work
  pub after : ℤ

-- what an operation does to the value of its item, if there is one
abbrev pub effect : {V : Type 0} → Kind V → Option V → Operation → Option V
effect K none x = none
effect K (some v) x = some (K.act v x.work.code x.work.operand x.work.before).0

abbrev pub works_of : List (Entry Operation) → List Work
works_of [] = []
works_of (e ∷ es) = e.operation.work ∷ works_of es

pub works_of_append : (a b : List (Entry Operation)) → works_of (a ++ b) ≡ works_of a ++ works_of b
works_of_append [] b = refl
works_of_append (x ∷ xs) b = ap (λ (l : List Work). x.operation.work ∷ l) (works_of_append xs b)

module _ {A : Type 0} where
  no_more : {x : A} → none ≡ some x → ⊥
  no_more e = let z : ◌≡◌ {A = ℕ} 0 1 = cc in omega arith

  pub get_set_same : (l : List A) (i : ℕ) (a b : A) → get_elem? l i ≡ some b → get_elem? (set l i a) i ≡ some a
  get_set_same [] i a b e = absurd (no_more e)
  get_set_same (x ∷ xs) zero a b e = refl
  get_set_same (x ∷ xs) (suc i) a b e = get_set_same xs i a b e

  pub get_set_other : (l : List A) (i k : ℕ) (a : A) → ¬ (i ≡ k) → get_elem? (set l i a) k ≡ get_elem? l k
  get_set_other [] i k a n = refl
  get_set_other (x ∷ xs) zero zero a n = absurd (n refl)
  get_set_other (x ∷ xs) zero (suc k) a n = refl
  get_set_other (x ∷ xs) (suc i) zero a n = refl
  get_set_other (x ∷ xs) (suc i) (suc k) a n = get_set_other xs i k a (λ e. n (ap suc e))

  -- lists with the same elements
  pub list_same : (a b : List A) → ((d : ℕ) → get_elem? a d ≡ get_elem? b d) → a ≡ b
  list_same [] [] h = refl
  list_same [] (y ∷ ys) h = absurd (no_more (h 0))
  list_same (x ∷ xs) [] h = absurd (no_more (sym (h 0)))
  list_same (x ∷ xs) (y ∷ ys) h =
      let e = h 0 in
      let f : x ≡ y = cc in
      ap₂ (λ (u : A) (l : List A). u ∷ l) f (list_same xs ys (λ d. h (suc d)))

module _ {P : Type 0} where
  pub until_append : (e : Entry P) (a b : List (Entry P)) → Mem e a → until e.stamp (a ++ b) ≡ until e.stamp a
  until_append e [] b m = absurd m
  until_append e (x ∷ xs) b (inl q) =
      let t : eqb x.stamp e.stamp ≡ true = eqb_same x.stamp e.stamp (ap (λ (y : Entry P). y.stamp) (sym q)) in
      by_test (λ v. cond v [] (x ∷ until e.stamp (xs ++ b)) ≡ cond v [] (x ∷ until e.stamp xs)) (eqb x.stamp e.stamp)
      (λ g. refl) (λ g. absurd (clash t g))
  until_append e (x ∷ xs) b (inr m) =
      by_test (λ v. cond v [] (x ∷ until e.stamp (xs ++ b)) ≡ cond v [] (x ∷ until e.stamp xs)) (eqb x.stamp e.stamp)
      (λ g. refl) (λ g. ap (λ (l : List (Entry P)). x ∷ l) (until_append e xs b m))

  pub until_here
      : (e : Entry P) (a b : List (Entry P)) → ((x : Entry P) → Mem x a → ¬ (x.stamp ≡ e.stamp))
      → until e.stamp (a ++ (e ∷ b)) ≡ a
  until_here e [] b n = rw (eqb_same e.stamp e.stamp refl)
  until_here e (x ∷ xs) b n =
      by_test (λ v. cond v [] (x ∷ until e.stamp (xs ++ (e ∷ b))) ≡ x ∷ xs) (eqb x.stamp e.stamp)
      (λ g. absurd (n x (inl refl) (same_eqb x.stamp e.stamp g)))
      (λ g. ap (λ (l : List (Entry P)). x ∷ l) (until_here e xs b (λ y m. n y (inr m))))

  pub after_append
      : {U : Type 0} (act : U → P → U) (s : ℕ → U) (a b : List (Entry P)) → after act s (a ++ b) ≡ after act (after act s a) b
  after_append act s [] b = refl
  after_append act s (x ∷ xs) b = after_append act (write act s x.item (act (s x.item) x.operation)) xs b

-- The way of a job of the type t through its states, with its works on the way:
-- from a state, whether it has worked there and its register, to another.
pub data PathOf (W : Workload) (t : ℕ) : ℕ → Bool → ℤ → List (Entry Operation) → ℕ → Bool → ℤ → Type 0 where
  here : (s : ℕ) (w : Bool) (p : ℤ) → PathOf W t s w p [] s w p
  work_here
      : (s s' : ℕ) (w' : Bool) (p p' : ℤ) (e : Entry Operation) (es : List (Entry Operation))
      → e.operation.work ≡ work_of W t s p
      → e.item ≡ W.item t s → PathOf W t s true e.operation.after es s' w' p' → PathOf W t s false p (e ∷ es) s' w' p'
  go_to
      : (s r s' : ℕ) (w' : Bool) (p p' : ℤ) (es : List (Entry Operation)) → Takes W t s p r → PathOf W t r false p es s' w' p'
      → PathOf W t s true p es s' w' p'

module _ (W : Workload) (t : ℕ) where
  pub path_work
      : {s s' : ℕ} {w w' : Bool} {p p' : ℤ} {es : List (Entry Operation)} (x : Entry Operation) → PathOf W t s w p es s' w' p'
      → w' ≡ false
      → x.operation.work ≡ work_of W t s' p' → x.item ≡ W.item t s'
      → PathOf W t s w p (es ++ (x ∷ [])) s' true x.operation.after
  path_work x (here s w p) f a b =
      subst (λ (v : Bool). PathOf W t s v p (x ∷ []) s true x.operation.after) (sym f)
      (work_here s s true p x.operation.after x [] a b (here s true x.operation.after))
  path_work x (work_here s s' w' p p' e es c d h) f a b =
      work_here s s' true p x.operation.after e (es ++ (x ∷ [])) c d (path_work x h f a b)
  path_work x (go_to s r s' w' p p' es c h) f a b =
      go_to s r s' true p x.operation.after (es ++ (x ∷ [])) c (path_work x h f a b)

  pub path_go
      : {s s' : ℕ} {w w' : Bool} {p p' : ℤ} {es : List (Entry Operation)} (r : ℕ) → PathOf W t s w p es s' w' p' → w' ≡ true
      → Takes W t s' p' r → PathOf W t s w p es r false p'
  path_go r (here s w p) f a =
      subst (λ (v : Bool). PathOf W t s v p [] r false p) (sym f) (go_to s r r false p p [] a (here r false p))
  path_go r (work_here s s' w' p p' e es c d h) f a = work_here s r false p p' e es c d (path_go r h f a)
  path_go r (go_to s q s' w' p p' es c h) f a = go_to s q r false p p' es c (path_go r h f a)

-- An entry that was written at a value v of its item, and the register that came of it.
pub record Seen {V : Type 0} (K : Kind V) (o : Option V) (e : Entry Operation) : Type 0 where
  pub value : V
  pub found : o ≡ some value
  pub register
      : e.operation.after ≡ (K.act value e.operation.work.code e.operation.work.operand e.operation.work.before).1

module _ {V : Type 0} (W : Workload) (K : Kind V) (first : List V) where
  abbrev pub values_after : List (Entry Operation) → ℕ → Option V
  values_after l = after (effect K) (get_elem? first) l

  -- each entry of the log saw what the log has before it
  abbrev pub AllSeen : List (Entry Operation) → Type 0
  AllSeen l = (e : Entry Operation) → Mem e l → Seen K (values_after (until e.stamp l) e.item) e

  -- the values vs are those after the log
  abbrev pub Stand : List V → List (Entry Operation) → Type 0
  Stand vs l = (d : ℕ) → get_elem? vs d ≡ values_after l d

  -- one more work
  pub stand_work
      : (vs : List V) (l : List (Entry Operation)) (e : Entry Operation) (v : V) → Stand vs l → get_elem? vs e.item ≡ some v
      → Stand
      (set vs e.item (K.act v e.operation.work.code e.operation.work.operand e.operation.work.before).0)
      (l ++ (e ∷ []))
  stand_work vs l e v h g d =
      elim (ℕ_discrete e.item d) [
        | yes q ↦ subst (λ (y : ℕ). get_elem? (set vs e.item new) y ≡ some new) q (get_set_same vs e.item new v g)
            ∙ sym (made ∙ by_test
            (λ b. cond b (effect K (values_after l e.item) e.operation) (values_after l d) ≡ some new) (eqb e.item d)
            (λ t. ap (λ (o : Option V). effect K o e.operation) (sym (h e.item) ∙ g))
            (λ t. absurd (clash (eqb_same e.item d q) t)))
        | no n ↦ get_set_other vs e.item d new n
            ∙ h d
            ∙ sym (made ∙ by_test
            (λ b. cond b (effect K (values_after l e.item) e.operation) (values_after l d) ≡ values_after l d)
            (eqb e.item d)
            (λ t. absurd (n (same_eqb e.item d t))) (λ t. refl))
      ]
    where
      new : V
      new = (K.act v e.operation.work.code e.operation.work.operand e.operation.work.before).0

      made
          : values_after (l ++ (e ∷ [])) d
          ≡ cond (eqb e.item d) (effect K (values_after l e.item) e.operation) (values_after l d)
      made = ap (λ (f : ℕ → Option V). f d) (after_append (effect K) (get_elem? first) l (e ∷ []))

  module _ (t : ℕ) (S : List (Entry Operation)) (see : AllSeen S) where
    -- from a state of a run alone to its end
    record ToEnd (s : ℕ) (vs : List V) (p : ℤ) (es A : List (Entry Operation)) (p' : ℤ) : Type 0 where
      final : List V
      run : Alone W K t s vs p (works_of es) final p'
      stand : Stand final (A ++ es)

    -- the same where the work of the state may be done
    abbrev Rest : Bool → ℕ → List V → ℤ → List (Entry Operation) → List (Entry Operation) → ℤ → Type 0
    Rest false s vs p es A p' = ToEnd s vs p es A p'
    Rest true s vs p es A p' =
        ((es ≡ []) × ((p ≡ p') × Terminal W t s)) ⊎ ((r : ℕ) × (Takes W t s p r × ToEnd r vs p es A p'))

    -- no stamp of A stands in es
    abbrev Fresh : List (Entry Operation) → List (Entry Operation) → Type 0
    Fresh A es = (x f : Entry Operation) → Mem x A → Mem f es → ¬ (x.stamp ≡ f.stamp)

    -- the way of a job whose entries es stand in the serial log S, behind the entries A of earlier jobs, is its run alone
    walk
        : {s s' : ℕ} {w w' : Bool} {p p' : ℤ} {es : List (Entry Operation)} (A B : List (Entry Operation)) (vs : List V)
        → PathOf W t s w p es s' w' p' → w' ≡ true → Terminal W t s' → A ++ (es ++ B) ≡ S → Fresh A es
        → ((e f : Entry Operation) → Before e f es → e.stamp < f.stamp) → Stand vs A → Rest w s vs p es A p'
    walk A B vs (here s w p) f c q n u h = subst (λ (v : Bool). Rest v s vs p [] A p) (sym f) (inl (refl, (refl, c)))
    walk A B vs (go_to s r s' w' p p' es a k) f c q n u h = inr (r, (a, walk A B vs k f c q n u h))
    walk A B vs (work_here s s' w' p p' e es a b k) f c q n u h =
        finish (walk (A ++ (e ∷ [])) B new k f c (append_assoc A (e ∷ []) (es ++ B) ∙ q) fresh (λ x y i. u x y (inr i)) stand)
      where
        seen : Seen K (values_after A e.item) e
        seen =
            subst (λ (l : List (Entry Operation)). Seen K (values_after l e.item) e)
            (until_here e A (es ++ B) (λ x m. n x e m (inl refl)))
            (subst (λ (l : List (Entry Operation)). Seen K (values_after (until e.stamp l) e.item) e) (sym q)
            (see e (subst (λ (l : List (Entry Operation)). Mem e l) q (append_right e A (e ∷ (es ++ B)) (inl refl)))))

        there : get_elem? vs e.item ≡ some seen.value
        there = h e.item ∙ seen.found

        new : List V
        new =
            set vs e.item (K.act seen.value e.operation.work.code e.operation.work.operand
            e.operation.work.before).0

        stand : Stand new (A ++ (e ∷ []))
        stand = stand_work vs A e seen.value h there

        works : Works W K t s vs p new e.operation.after
        works =
            record {
              found = seen.value;
              there = subst (λ (d : ℕ). get_elem? vs d ≡ some seen.value) b there;
              value =
                  ap (λ (d : ℕ). set vs d
                  (K.act seen.value e.operation.work.code e.operation.work.operand
                  e.operation.work.before).0) b
                  ∙ ap (λ (y : Work). set vs (W.item t s) (K.act seen.value y.code y.operand y.before).0) a;
              register = seen.register ∙ ap (λ (y : Work). (K.act seen.value y.code y.operand y.before).1) a;
            }

        fresh : Fresh (A ++ (e ∷ [])) es
        fresh x y m i = elim (append_cases x A (e ∷ []) m) [
          | inl j ↦ n x y j (inr i)
          | inr (inl r) ↦ (λ z. absurd
              (let o = u e y (inl (refl, i)) in let v = ap (λ (g : Entry Operation). g.stamp) r in omega arith))
          | inr (inr r) ↦ absurd r
        ]

        finish : Rest true s new e.operation.after es (A ++ (e ∷ [])) p' → ToEnd s vs p (e ∷ es) A p'
        finish (inl g) =
            record {
              final = new;
              run =
                  subst (λ (l : List Work). Alone W K t s vs p l new p')
                  (ap₂ (λ (y : Work) (l : List (Entry Operation)). y ∷ works_of l) (sym a) (sym g.0))
                  (stops s vs new p p' (subst (λ (z : ℤ). Works W K t s vs p new z) g.1.0 works) g.1.1);
              stand = subst (λ (l : List (Entry Operation)). Stand new (A ++ (e ∷ l))) (sym g.0) stand;
            }
        finish (inr g) =
            let z = g.1.1 in
            record {
              final = z.final;
              run =
                  subst (λ (y : Work). Alone W K t s vs p (y ∷ works_of es) z.final p') (sym a)
                  (goes_on s g.0 vs new z.final p e.operation.after p' (works_of es) works g.1.0 z.run);
              stand = subst (λ (l : List (Entry Operation)). Stand z.final l) (append_assoc A (e ∷ []) es) z.stand;
            }

  -- What the journal and the log have of a job that ended.
  pub record Ran (b : Journal V) (log : List (Entry Operation)) (j : ℕ) : Type 0 where
    pub end_state : ℕ
    pub terminal : Terminal W (b.job j).type end_state
    pub path : PathOf W (b.job j).type 0 false (b.job j).argument (of_job j log) end_state true (b.job j).register
    pub works : (b.job j).works ≡ works_of (of_job j log)

  module _ (b : Journal V) (log S : List (Entry Operation)) (see : AllSeen S)
      (back : (e : Entry Operation) → Mem e S → Mem e log)
      (rising : (e f : Entry Operation) → Before e f log → e.stamp < f.stamp)
      (stamped : (e f : Entry Operation) → Mem e log → Mem f log → e.stamp ≡ f.stamp → e ≡ f) where
    record AllRun (js : List ℕ) (vs : List V) (A : List (Entry Operation)) : Type 0 where
      final : List V
      run : OneByOne W K b js vs final
      stand : Stand final (A ++ serial js log)

    -- the jobs of a list, one by one, after those that did the entries A
    one_by_one
        : (js : List ℕ) (A : List (Entry Operation)) (vs : List V) → A ++ serial js log ≡ S → Distinct js
        → ((x : Entry Operation) → Mem x A → ¬ Mem x.job js) → ((j : ℕ) → Mem j js → Ran b log j) → Stand vs A
        → AllRun js vs A
    one_by_one [] A vs q d n r h =
        record { final = vs; run = none_left vs; stand = subst (λ (l : List (Entry Operation)). Stand vs l) (nil A) h }
      where
        nil : (l : List (Entry Operation)) → l ≡ l ++ []
        nil [] = refl
        nil (x ∷ xs) = ap (λ (k : List (Entry Operation)). x ∷ k) (nil xs)
    one_by_one (j ∷ js) A vs q d n r h =
        let z = first_job in
        let i = one_by_one js (A ++ of_job j log) z.final (append_assoc A (of_job j log) (serial js log) ∙ q) d.1 others
        (λ k m. r k (inr m)) z.stand in
        record {
          final = i.final;
          run = then j js vs z.final i.final
              (subst (λ (l : List Work). Alone W K (b.job j).type 0 vs (b.job j).argument l z.final (b.job j).register)
              (sym ran.works) z.run) i.run;
          stand =
              subst (λ (l : List (Entry Operation)). Stand i.final l) (append_assoc A (of_job j log) (serial js log))
              i.stand;
        }
      where
        ran : Ran b log j
        ran = r j (inl refl)

        mine : (f : Entry Operation) → Mem f (of_job j log) → Mem f log × (f.job ≡ j)
        mine f m = let k = keep_mem (λ (y : Entry Operation). eqb y.job j) f log m in (k.0, same_eqb f.job j k.1)

        fresh : (x f : Entry Operation) → Mem x A → Mem f (of_job j log) → ¬ (x.stamp ≡ f.stamp)
        fresh x f m k e =
            let w = stamped x f (back x
            (subst (λ (l : List (Entry Operation)). Mem x l) q (append_left x A (serial (j ∷ js) log) m))) (mine f k).0 e in
            n x m (inl (ap (λ (y : Entry Operation). y.job) w ∙ (mine f k).1))

        first_job : ToEnd (b.job j).type S see 0 vs (b.job j).argument (of_job j log) A (b.job j).register
        first_job =
            walk (b.job j).type S see A (serial js log) vs ran.path refl ran.terminal q fresh
            (λ e f u. rising e f (keep_before (λ (y : Entry Operation). eqb y.job j) e f log u)) h

        others : (x : Entry Operation) → Mem x (A ++ of_job j log) → ¬ Mem x.job js
        others x m i = elim (append_cases x A (of_job j log) m) [
          | inl k ↦ n x k (inr i)
          | inr k ↦ d.0 (subst (λ (y : ℕ). Mem y js) (mine x k).1 i)
        ]

    pub run_all
        : (ord : List ℕ) → serial ord log ≡ S → Distinct ord → ((j : ℕ) → Mem j ord → Ran b log j)
        → (final : List V) × (OneByOne W K b ord first final × Stand final S)
    run_all ord q d r =
        let z = one_by_one ord [] first q d (λ x m. absurd m) r (λ d. refl) in
        (z.final, (z.run, subst (λ (l : List (Entry Operation)). Stand z.final l) q z.stand))
