-- Small decision procedures, and one for the ways of a type.
use mathlib.Core.Path.{◌≡◌, refl, subst}
use mathlib.Core.List.{List, [], ◌∷◌}
use mathlib.Core.Logic.{◌⊎◌, inl, inr}
use mathlib.Core.Bool.{Bool, true, false}
use Prim.Native.Nat.{ℕ, zero, suc, ◌<◌}
use native.Mathlib.Omega.{arith}
use native.Mathlib.Decide.{ℕ_discrete, dec_lt}
use Rattle.locking.specs.Lists.{Mem}
use Rattle.model.specs.Workload.{Workload, Arc, Way, stay, onward}
use Rattle.model.specs.Table.{Lowest}
use Rattle.model.proofs.Job.{clash}

pub dec_and : {A B : Type 0} → Dec A → Dec B → Dec (A × B)
dec_and (yes a) (yes b) = yes (a, b)
dec_and (yes a) (no b) = no (λ h. b h.1)
dec_and (no a) q = no (λ h. a h.0)

pub dec_or : {A B : Type 0} → Dec A → Dec B → Dec (A ⊎ B)
dec_or (yes a) q = yes (inl a)
dec_or (no a) (yes b) = yes (inr b)
dec_or (no a) (no b) = no (λ h. elim h [ inl x ↦ a x | inr y ↦ b y ])

pub dec_not : {A : Type 0} → Dec A → Dec (¬ A)
dec_not (yes a) = no (λ n. n a)
dec_not (no n) = yes n

pub dec_imp : {A B : Type 0} → Dec A → Dec B → Dec (A → B)
dec_imp (yes a) (yes b) = yes (λ x. b)
dec_imp (yes a) (no n) = no (λ f. n (f a))
dec_imp (no n) q = yes (λ x. absurd (n x))

pub dec_iff : {A B : Type 0} → (A → B) → (B → A) → Dec A → Dec B
dec_iff f g (yes a) = yes (f a)
dec_iff f g (no n) = no (λ b. n (g b))

pub dec_true : (b : Bool) → Dec (b ≡ true)
dec_true true = yes refl
dec_true false = no (λ e. clash e refl)

-- a search among the numbers below n
pub dec_some : (P : ℕ → Type 0) (n : ℕ) → ((x : ℕ) → x < n → Dec (P x)) → Dec ((x : ℕ) × (x < n) × P x)
dec_some P zero d = no (λ h. let i = h.1 in absurd (omega arith))
dec_some P (suc n) d = go (d n (omega arith)) (dec_some P n (λ x i. d x (omega arith)))
  where
    go : Dec (P n) → Dec ((x : ℕ) × (x < n) × P x) → Dec ((x : ℕ) × (x < suc n) × P x)
    go (yes a) q = yes (n, (omega arith), a)
    go (no a) (yes q) = yes (q.0, (let i = q.1 in omega arith), q.2)
    go (no a) (no q) = no
        (λ h. elim (ℕ_discrete h.0 n) [
          | yes e ↦ a (subst P e h.2)
          | no f ↦ q (h.0, (let i = h.1 in omega arith), h.2)
        ])

pub dec_all : (P : ℕ → Type 0) (n : ℕ) → ((x : ℕ) → x < n → Dec (P x)) → Dec ((x : ℕ) → x < n → P x)
dec_all P n d = go (dec_some (λ x. ¬ P x) n (λ x i. dec_not (d x i)))
  where
    pick : (x : ℕ) → ¬ (¬ P x) → Dec (P x) → P x
    pick x n (yes a) = a
    pick x n (no a) = absurd (n a)

    go : Dec ((x : ℕ) × (x < n) × ¬ P x) → Dec ((x : ℕ) → x < n → P x)
    go (yes h) = no (λ f. h.2 (f h.0 h.1))
    go (no h) = yes (λ x i. pick x (λ a. h (x, i, a)) (d x i))

-- the lowest number of which P holds, or there is none
pub lowest
    : (P : ℕ → Type 0) (n : ℕ) → ((x : ℕ) → Dec (P x)) → ((x : ℕ) → P x → x < n) → ((d : ℕ) × Lowest P d) ⊎ ((x : ℕ) → ¬ P x)
lowest P n d low = elim (below n) [ inl h ↦ inl h | inr h ↦ inr (λ x a. h x (low x a) a) ]
  where
    below : (k : ℕ) → ((d : ℕ) × Lowest P d) ⊎ ((x : ℕ) → x < k → ¬ P x)
    below zero = inr (λ x i a. absurd (omega arith))
    below (suc k) = elim (below k) [
      | inl h ↦ inl h
      | inr h ↦ elim (d k) [
        | yes a ↦ inl (k, (a, λ x b. elim (dec_lt x k) [ yes i ↦ absurd (h x i b) | no i ↦ omega arith ]))
        | no f ↦ inr (λ x i b. elim (ℕ_discrete x k) [ yes e ↦ f (subst P e b) | no g ↦ h x (omega arith) b ])
      ]
    ]

dec_mem : (x : ℕ) (l : List ℕ) → Dec (Mem x l)
dec_mem x [] = no (λ h. h)
dec_mem x (y ∷ ys) = dec_or (ℕ_discrete x y) (dec_mem x ys)

module _ (W : Workload) (t : ℕ) (leads : (m s : ℕ) → Arc W t m s → s < W.states t) where
  pub dec_arc : (m s : ℕ) → Dec (Arc W t m s)
  dec_arc m s = dec_and (dec_lt m (W.states t)) (dec_mem s (W.arcs t m))

  -- a way from a to b, of which all states between are below k
  Via : ℕ → ℕ → ℕ → Type 0
  Via zero a b = (a ≡ b) ⊎ Arc W t a b
  Via (suc k) a b = Via k a b ⊎ (Via k a k × Via k k b)

  dec_via : (k a b : ℕ) → Dec (Via k a b)
  unfolding Via
  dec_via zero a b = dec_or (ℕ_discrete a b) (dec_arc a b)
  dec_via (suc k) a b = dec_or (dec_via k a b) (dec_and (dec_via k a k) (dec_via k k b))

  pub way_trans : {a b c : ℕ} → Way W t a b → Way W t b c → Way W t a c
  way_trans (stay s) h = h
  way_trans {c = c} (onward s m r e g) h = onward s m c e (way_trans g h)

  via_way : (k a b : ℕ) → Via k a b → Way W t a b
  unfolding Via
  via_way zero a b (inl e) = subst (λ (x : ℕ). Way W t a x) e (stay a)
  via_way zero a b (inr e) = onward a b b e (stay b)
  via_way (suc k) a b (inl h) = via_way k a b h
  via_way (suc k) a b (inr h) = way_trans (via_way k a k h.0) (via_way k k b h.1)

  via_zero : (k a b : ℕ) → (a ≡ b) ⊎ Arc W t a b → Via k a b
  unfolding Via
  via_zero zero a b h = h
  via_zero (suc k) a b h = inl (via_zero k a b h)

  via_trans : (k x a b : ℕ) → x < k → Via k a x → Via k x b → Via k a b
  unfolding Via
  via_trans zero x a b i p q = absurd (omega arith)
  via_trans (suc k) x a b i p q = elim (ℕ_discrete x k) [
    | yes e ↦ inr (to (subst (λ (y : ℕ). Via (suc k) a y) e p), from (subst (λ (y : ℕ). Via (suc k) y b) e q))
    | no f ↦ join p q (λ c d. via_trans k x c d (omega arith))
  ]
    where
      to : Via (suc k) a k → Via k a k
      to (inl h) = h
      to (inr h) = h.0

      from : Via (suc k) k b → Via k k b
      from (inl h) = h
      from (inr h) = h.1

      join : Via (suc k) a x → Via (suc k) x b → ((c d : ℕ) → Via k c x → Via k x d → Via k c d) → Via (suc k) a b
      join (inl p) (inl q) r = inl (r a b p q)
      join (inl p) (inr q) r = inr (r a k p q.0, q.1)
      join (inr p) (inl q) r = inr (p.0, r k b p.1 q)
      join (inr p) (inr q) r = inr (p.0, q.1)

  way_via : {a b : ℕ} → Way W t a b → Via (W.states t) a b
  way_via (stay s) = via_zero (W.states t) s s (inl refl)
  way_via (onward s m r e h) =
      via_trans (W.states t) m s r (leads s m e) (via_zero (W.states t) s m (inr e)) (way_via h)

  pub dec_way : (a b : ℕ) → Dec (Way W t a b)
  dec_way a b = dec_iff (via_way (W.states t) a b) way_via (dec_via (W.states t) a b)

  pub way_state : {a b : ℕ} → Way W t a b → a < W.states t → b < W.states t
  way_state (stay s) i = i
  way_state (onward s m r e h) i = way_state h (leads s m e)
