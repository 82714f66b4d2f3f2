-- One job after the other has the same effect as the log.
use mathlib.Core.Path.{◌≡◌, refl, sym, ◌∙◌, subst, ap, ap₂}
use mathlib.Core.List.{List, [], ◌∷◌, ◌++◌}
use mathlib.Core.Logic.{◌⊎◌, inl, inr}
use mathlib.Core.Bool.{Bool, true, false, cond}
use Prim.Native.Nat.{ℕ}
use native.Mathlib.Decide.{ℕ_discrete}
use lib.Dec.{eqb}
use Rattle.locking.specs.Lists.{Mem, Before, Distinct}
use Rattle.locking.specs.Serial.{Entry, keep, on_item, of_job, until, serial, Agreeing, Alike, write, after, EqualEffect}
use Rattle.locking.specs.Serial.{SerialLog, SerialEffect}
use Rattle.locking.proofs.Lists.{by_test, eqb_same, same_eqb, eqb_apart, before_head, before_tail, before_left, before_right}
use Rattle.locking.proofs.Keep.{append_left, append_right, append_cases, keep_yes, keep_not, keep_append, keep_swap, keep_mem}
use Rattle.locking.proofs.Keep.{mem_keep, keep_before, keep_none}

module _ {P : Type 0} where
  serial_only : (e : Entry P) (ord : List ℕ) (l : List (Entry P)) → Mem e (serial ord l) → Mem e l
  serial_only e [] l m = absurd m
  serial_only e (j ∷ js) l m =
      elim (append_cases e (of_job j l) (serial js l) m) [
        | inl k ↦ (keep_mem (λ (f : Entry P). eqb f.job j) e l k).0
        | inr k ↦ serial_only e js l k
      ]

  serial_whole : (e : Entry P) (ord : List ℕ) (l : List (Entry P)) → Mem e.job ord → Mem e l → Mem e (serial ord l)
  serial_whole e [] l h m = absurd h
  serial_whole e (j ∷ js) l (inl f) m =
      append_left e (of_job j l) (serial js l) (mem_keep (λ (f : Entry P). eqb f.job j) e l m (eqb_same e.job j f))
  serial_whole e (j ∷ js) l (inr h) m = append_right e (of_job j l) (serial js l) (serial_whole e js l h m)

  -- what a test keeps of the serial log is the serial log of what it keeps
  serial_keep : (p : Entry P → Bool) (ord : List ℕ) (l : List (Entry P)) → keep p (serial ord l) ≡ serial ord (keep p l)
  serial_keep p [] l = refl
  serial_keep p (j ∷ js) l =
      keep_append p (of_job j l) (serial js l)
      ∙ ap₂ (λ (a b : List (Entry P)). a ++ b) (keep_swap p (λ (f : Entry P). eqb f.job j) l) (serial_keep p js l)

  -- an entry of a job that the order has not is passed over
  serial_skip : (e : Entry P) (js : List ℕ) (m : List (Entry P)) → ¬ Mem e.job js → serial js (e ∷ m) ≡ serial js m
  serial_skip e [] m n = refl
  serial_skip e (j ∷ js) m n =
      ap₂ (λ (a b : List (Entry P)). a ++ b)
      (keep_not (λ (f : Entry P). eqb f.job j) e m (eqb_apart e.job j (λ h. n (inl h))))
      (serial_skip e js m (λ h. n (inr h)))

  -- an entry whose job stands before those of all later entries, or is theirs, stands first in the serial log too
  serial_first
      : (ord : List ℕ) (e : Entry P) (m : List (Entry P)) → Distinct ord → Mem e.job ord
      → ((f : Entry P) → Mem f m → (e.job ≡ f.job) ⊎ Before e.job f.job ord) → serial ord (e ∷ m) ≡ e ∷ serial ord m
  serial_first [] e m d k h = absurd k
  serial_first (j ∷ js) e m d k h =
      elim (ℕ_discrete e.job j) [
        | yes q ↦ mine q
        | no n ↦ theirs n (serial_first js e m d.1 (later n k) (λ f i. shorter n f i (h f i)))
      ]
    where
      later : ¬ (e.job ≡ j) → Mem e.job (j ∷ js) → Mem e.job js
      later n (inl q) = absurd (n q)
      later n (inr i) = i

      shorter
          : ¬ (e.job ≡ j) → (f : Entry P) → Mem f m → (e.job ≡ f.job) ⊎ Before e.job f.job (j ∷ js)
          → (e.job ≡ f.job) ⊎ Before e.job f.job js
      shorter n f i (inl q) = inl q
      shorter n f i (inr b) = inr (before_tail e.job f.job j js n b)

      mine : e.job ≡ j → serial (j ∷ js) (e ∷ m) ≡ e ∷ serial (j ∷ js) m
      mine q =
          ap₂ (λ (a b : List (Entry P)). a ++ b) (keep_yes (λ (f : Entry P). eqb f.job j) e m (eqb_same e.job j q))
          (serial_skip e js m (λ i. d.0 (subst (λ (v : ℕ). Mem v js) q i)))

      -- no later entry is of the job j
      other : ¬ (e.job ≡ j) → (f : Entry P) → Mem f m → ¬ (f.job ≡ j)
      other n f i q =
          elim (h f i) [
            | inl r ↦ n (r ∙ q)
            | inr b ↦ before_head e.job j js d.0 (subst (λ (v : ℕ). Before e.job v (j ∷ js)) q b)
          ]

      none : ¬ (e.job ≡ j) → of_job j m ≡ []
      none n = keep_none (λ (f : Entry P). eqb f.job j) m (λ f i. eqb_apart f.job j (other n f i))

      theirs : ¬ (e.job ≡ j) → serial js (e ∷ m) ≡ e ∷ serial js m → serial (j ∷ js) (e ∷ m) ≡ e ∷ serial (j ∷ js) m
      theirs n r =
          ap₂ (λ (a b : List (Entry P)). a ++ b)
          (keep_not (λ (f : Entry P). eqb f.job j) e m (eqb_apart e.job j n) ∙ none n) r
          ∙ ap (λ (a : List (Entry P)). e ∷ (a ++ serial js m)) (sym (none n))

  -- a log in which the jobs stand in the order is its own serial log
  serial_self
      : (ord : List ℕ) (m : List (Entry P)) → Distinct ord → ((e : Entry P) → Mem e m → Mem e.job ord)
      → ((e f : Entry P) → Before e f m → (e.job ≡ f.job) ⊎ Before e.job f.job ord) → serial ord m ≡ m
  serial_self ord [] d k h = empty ord
    where
      empty : (o : List ℕ) → serial {P = P} o [] ≡ []
      empty [] = refl
      empty (j ∷ js) = empty js
  serial_self ord (e ∷ m) d k h =
      serial_first ord e m d (k e (inl refl)) (λ f i. h e f (inl (refl, i)))
      ∙ ap (λ (l : List (Entry P)). e ∷ l) (serial_self ord m d (λ f i. k f (inr i)) (λ f g b. h f g (inr b)))

  until_keep
      : (p : Entry P → Bool) (s : ℕ) (l : List (Entry P)) → ((x : Entry P) → Mem x l → x.stamp ≡ s → p x ≡ true)
      → keep p (until s l) ≡ until s (keep p l)
  until_keep p s [] h = refl
  until_keep p s (x ∷ xs) h =
      go (eqb x.stamp s) (p x) refl refl (λ e. h x (inl refl) (same_eqb x.stamp s e))
      (until_keep p s xs (λ y m. h y (inr m)))
    where
      go
          : (a b : Bool) → eqb x.stamp s ≡ a → p x ≡ b → (eqb x.stamp s ≡ true → p x ≡ true)
          → keep p (until s xs) ≡ until s (keep p xs) → keep p (until s (x ∷ xs)) ≡ until s (keep p (x ∷ xs))
      go true b e f k r = let g : p x ≡ true = k e in cc
      go false true e f k r = cc
      go false false e f k r = cc

  module _ (ord : List ℕ) (log : List (Entry P)) (G : Agreeing ord log) where
    -- where the kept entries stand in the order, the serial log has the same
    kept
        : (p : Entry P → Bool)
        → ((e f : Entry P) → p e ≡ true → p f ≡ true → Before e f log → (e.job ≡ f.job) ⊎ Before e.job f.job ord)
        → keep p (serial ord log) ≡ keep p log
    kept p h =
        serial_keep p ord log
        ∙ serial_self ord (keep p log) G.distinct (λ e m. G.known e (keep_mem p e log m).0)
        (λ e f b.
        h e f (keep_mem p e log (before_left e f (keep p log) b)).1 (keep_mem p f log (before_right e f (keep p log) b)).1
        (keep_before p e f log b))

    -- up to an entry too, if the test passes whatever has the stamp of the entry
    kept_until
        : (p : Entry P → Bool) (e : Entry P) → Mem e log → p e ≡ true → keep p (serial ord log) ≡ keep p log
        → keep p (until e.stamp (serial ord log)) ≡ keep p (until e.stamp log)
    kept_until p e m t r =
        until_keep p e.stamp (serial ord log) (λ x i q. same x (serial_only x ord log i) q)
        ∙ ap (until e.stamp) r
        ∙ sym (until_keep p e.stamp log same)
      where
        same : (x : Entry P) → Mem x log → x.stamp ≡ e.stamp → p x ≡ true
        same x i q = ap p (G.stamped x e i m q) ∙ t

    same_items : (d : ℕ) → on_item d (serial ord log) ≡ on_item d log
    same_items d =
        kept (λ (e : Entry P). eqb e.item d)
        (λ e f a b c. G.agrees e f c (same_eqb e.item d a ∙ sym (same_eqb f.item d b)))

    same_jobs : (j : ℕ) → of_job j (serial ord log) ≡ of_job j log
    same_jobs j =
        kept (λ (e : Entry P). eqb e.job j) (λ e f a b c. inl (same_eqb e.job j a ∙ sym (same_eqb f.job j b)))

    alike : Alike (serial ord log) log
    alike =
        record {
          there = λ e m. serial_whole e ord log (G.known e m) m;
          back = λ e m. serial_only e ord log m;
          items = same_items;
          jobs = same_jobs;
          prior = λ e m.
              kept_until (λ (f : Entry P). eqb f.item e.item) e m (eqb_same e.item e.item refl)
              (same_items e.item);
          done = λ e m.
              kept_until (λ (f : Entry P). eqb f.job e.job) e m (eqb_same e.job e.job refl) (same_jobs e.job);
        }

pub serial_log : (P : Type 0) → SerialLog P
serial_log P ord log G = alike ord log G

module _ {P V : Type 0} (act : V → P → V) where
  -- all the entries act on one value
  abbrev fold : V → List (Entry P) → V
  fold v [] = v
  fold v (e ∷ l) = fold (act v e.operation) l

  -- the value of an item is made by the entries on it
  after_item : (s : ℕ → V) (d : ℕ) (l : List (Entry P)) → after act s l d ≡ fold (s d) (on_item d l)
  after_item s d [] = refl
  after_item s d (e ∷ l) =
      after_item (write act s e.item (act (s e.item) e.operation)) d l
      ∙ by_test
      (λ v. fold (cond v (act (s e.item) e.operation) (s d)) (on_item d l) ≡ fold (s d)
      (cond v (e ∷ on_item d l) (on_item d l)))
      (eqb e.item d)
      (λ t. ap (λ (i : ℕ). fold (act (s i) e.operation) (on_item d l)) (same_eqb e.item d t)) (λ t. refl)

  alike_effect : (s : ℕ → V) (a b : List (Entry P)) → Alike a b → EqualEffect act s a b
  alike_effect s a b h =
      record {
        end = λ d. after_item s d a ∙ ap (fold (s d)) (h.items d) ∙ sym (after_item s d b);
        sees = λ e m.
            after_item s e.item (until e.stamp a)
            ∙ ap (fold (s e.item)) (h.prior e m)
            ∙ sym (after_item s e.item (until e.stamp b));
      }

pub serial_effect : (P V : Type 0) → SerialEffect P V
serial_effect P V act s ord log G = alike_effect act s (serial ord log) log (alike ord log G)
