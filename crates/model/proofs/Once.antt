-- A call has one answer, and a run alone has one course.
use mathlib.Core.Path.{◌≡◌, refl, sym, ◌∙◌, subst, ap, ap₂, fun_ext}
use mathlib.Core.List.{List, ◌∷◌}
use mathlib.Core.Logic.{inl, inr}
use mathlib.Core.Option.{Option, some}
use mathlib.Core.Bool.{Bool, true, false}
use Prim.Native.Nat.{ℕ, ◌≤◌}
use native.Mathlib.Omega.{arith}
use native.Mathlib.Decide.{ℕ_discrete}
use lib.IntN.{ℤ}
use lib.ListN.{set}
use Rattle.locking.specs.Lists.{Mem}
use Rattle.model.specs.Workload.{Workload, WellFormed, Terminal, Unlockable, Takes}
use Rattle.model.specs.Table.{Kind, Job, item_of, Without, With, WithAll, Lowest, Wanted, Works, WorksIfThere, holding}
use Rattle.model.specs.Table.{locking, with_register, in_state, not_awaited, Told, released, worked, locked, waiting, gone}
use Rattle.model.specs.Table.{Steps, releases, works, locks, waits, goes, closes, finishes, Table, HoldsAt, Placed, seat, Call}
use Rattle.model.specs.Table.{Answer, told, collected, Moves, begin_unfit, begin_no_place, begin_no_type, begin_taken, begins}
use Rattle.model.specs.Table.{step_no_place, step_no_job, steps, collect_none, collect_early, collects, leave_none}
use Rattle.model.specs.Table.{leaves_finished, leaves_unfinished}
use Rattle.model.specs.Journal.{Work, work_of, Journal, Alone, stops, goes_on}
use Rattle.model.specs.Sound.{Good}
use Rattle.model.proofs.Job.{clash, element_mem, wanted_one}
use Rattle.model.proofs.History.{History, HoldsGood, some_same, none_some}

without_one : (a b c : ℕ → Bool) (d e : ℕ) → d ≡ e → Without a d b → Without a e c → b ≡ c
without_one a b c d e q w v = fun_ext (λ x. elim (ℕ_discrete x d) [
  | yes f ↦ ap b f ∙ w.0 ∙ sym (ap c (f ∙ q) ∙ v.0)
  | no n ↦ w.1 x n ∙ sym (v.1 x (λ f. n (f ∙ sym q)))
])

with_one : (a b c : ℕ → Bool) (d e : ℕ) → d ≡ e → With a d b → With a e c → b ≡ c
with_one a b c d e q w v = fun_ext (λ x. elim (ℕ_discrete x d) [
  | yes f ↦ ap b f ∙ w.0 ∙ sym (ap c (f ∙ q) ∙ v.0)
  | no n ↦ w.1 x n ∙ sym (v.1 x (λ f. n (f ∙ sym q)))
])

same_bool : (a b : Bool) → (a ≡ true → b ≡ true) → (b ≡ true → a ≡ true) → a ≡ b
same_bool true b f g = sym (f refl)
same_bool false true f g = absurd (clash (g refl) refl)
same_bool false false f g = refl

with_all_one : (a b c : ℕ → Bool) (P : ℕ → Type 0) → WithAll a P b → WithAll a P c → b ≡ c
with_all_one a b c P w v = fun_ext (λ x. same_bool (b x) (c x) (λ e. (v x).1 ((w x).0 e)) (λ e. (w x).1 ((v x).0 e)))

low_one : {P : ℕ → Type 0} (d e : ℕ) → Lowest P d → Lowest P e → d ≡ e
low_one d e l m = let i : d ≤ e = l.1 e m.0 in let k : e ≤ d = m.1 d l.0 in omega arith

module _ {V : Type 0} (W : Workload) (K : Kind V) where
  works_one
      : {t s : ℕ} {vs : List V} {p : ℤ} (new new' : List V) (z z' : ℤ) → Works W K t s vs p new z → Works W K t s vs p new' z'
      → (new ≡ new') × (z ≡ z')
  works_one {t} {s} {vs} {p} new new' z z' w v =
      let e : w.found ≡ v.found = some_same (sym w.there ∙ v.there) in (
        w.value ∙ ap (λ (y : V). set vs (W.item t s) (K.act y (W.code t s) (W.operand t s) p).0) e ∙ sym v.value,
        w.register ∙ ap (λ (y : V). (K.act y (W.code t s) (W.operand t s) p).1) e ∙ sym v.register,
      )

  terminal_open : (t s : ℕ) (p : ℤ) (r : ℕ) → Takes W t s p r → Terminal W t s → ⊥
  terminal_open t s p r e c = subst (λ (l : List ℕ). Mem r l) c (element_mem (W.arcs t s) _ r e)

  pub alone_one
      : {t s : ℕ} {vs : List V} {p : ℤ} (ws ws' : List Work) (end end' : List V) (z z' : ℤ) → Alone W K t s vs p ws end z
      → Alone W K t s vs p ws' end' z' → (ws ≡ ws') × (end ≡ end') × (z ≡ z')
  alone_one _ _ _ _ _ _ (stops s vs v p z w c) (stops s' vs' v' p' z' w' c') =
      let o = works_one v v' z z' w w' in (refl, o.0, o.1)
  alone_one {t = y} _ _ _ _ _ _ (stops s vs v p z w c) (goes_on s' r vs' v' u p' z' q ws w' t' k) =
      absurd (terminal_open y s z' r t' c)
  alone_one {t = y} _ _ _ _ _ _ (goes_on s r vs v u p z q ws w t k) (stops s' vs' v' p' z' w' c) =
      absurd (terminal_open y s z r t c)
  alone_one {t = y} _ _ _ _ _ _ (goes_on s r vs v u p z q ws w t k) (goes_on s' r' vs' v' u' p' z' q' ws' w' t' k') =
      let o = works_one v v' z z' w w' in
      let e : r' ≡ r = some_same (sym t' ∙ subst (λ (x : ℤ). Takes W y s x r) o.1 t) in
      let i =
      alone_one ws ws' u u' q q' k
      (subst (λ (x : ℕ). Alone W K y x v z ws' u' q') e
      (subst (λ (x : List V). Alone W K y r' x z ws' u' q') (sym o.0)
      (subst (λ (x : ℤ). Alone W K y r' v' x ws' u' q') (sym o.1) k')))
      in
      (ap (λ (l : List Work). work_of W y s p ∷ l) i.0, i.1, i.2)

module _ {V : Type 0} (W : Workload) (K : Kind V) (Holds : ℕ → ℕ → Type 0) (vs : List V) (J : Job)
    (wanted_same : (d e : ℕ) → Wanted W J d → Wanted W J e → d ≡ e) (holder : (q o d : ℕ) → Holds q d → Holds o d → q ≡ o) where
  SameStep : Told → Told → List V → List V → Job → Job → Type 0
  SameStep a b x y I I' = (a ≡ b) × (x ≡ y) × (I ≡ I')

  no_arc : (r : ℕ) → Takes W J.type J.state J.register r → Terminal W J.type J.state → ⊥
  no_arc r e c = terminal_open W K J.type J.state J.register r e c

  same_release
      : (d e : ℕ) (u v : ℕ → Bool) → d ≡ e → Without J.held d u → Without J.held e v
      → SameStep (released d) (released e) vs vs (holding J u) (holding J v)
  unfolding SameStep
  same_release d e u v q w y = (ap released q, refl, ap (holding J) (without_one J.held u v d e q w y))

  same_work
      : (new new' : List V) (z z' : ℤ) → WorksIfThere W K J.type J.state vs J.register new z
      → WorksIfThere W K J.type J.state vs J.register new' z'
      → SameStep (worked (item_of W J)) (worked (item_of W J)) new new' (with_register J z) (with_register J z')
  unfolding SameStep
  same_work new new' z z' (inl w) (inl v) = let o = works_one W K new new' z z' w v in (refl, o.0, ap (with_register J) o.1)
  same_work new new' z z' (inl w) (inr v) = absurd (none_some (sym v.0 ∙ w.there))
  same_work new new' z z' (inr w) (inl v) = absurd (none_some (sym w.0 ∙ v.there))
  same_work new new' z z' (inr w) (inr v) = (refl, w.1 ∙ sym v.1, ap (with_register J) (w.2 ∙ sym v.2))

  same_lock
      : (d e : ℕ) (u u' v v' : ℕ → Bool) → d ≡ e → With J.held d u → With J.held e u' → With J.ever_locked d v
      → With J.ever_locked e v'
      → SameStep (locked d) (locked e) vs vs (locking J u v) (locking J u' v')
  unfolding SameStep
  same_lock d e u u' v v' q a b c i =
      (ap locked q, refl, ap₂ (locking J) (with_one J.held u u' d e q a b) (with_one J.ever_locked v v' d e q c i))

  same_wait : (d e q o : ℕ) → d ≡ e → Holds q d → Holds o e → SameStep (waiting d q) (waiting e o) vs vs J J
  unfolding SameStep
  same_wait d e q o f a b = (ap₂ waiting f (holder q o d a (subst (Holds o) (sym f) b)), refl, refl)

  same_go
      : (s r : ℕ) (u v : ℕ → Bool) → s ≡ r → WithAll J.done (Unlockable W J.type s) u
      → WithAll J.done (Unlockable W J.type r) v
      → SameStep (gone s) (gone r) vs vs (in_state J s u) (in_state J r v)
  unfolding SameStep
  same_go s r u v q a b = (
    ap gone q,
    refl,
    ap₂ (in_state J) q
        (with_all_one J.done u v (Unlockable W J.type s) a
        (subst (λ (y : ℕ). WithAll J.done (Unlockable W J.type y) v) (sym q) b)),
  )

  one_step
      : (a a' : Told) (x x' : List V) (I I' : Job) → Steps W K Holds vs J a x I → Steps W K Holds vs J a' x' I'
      → (a ≡ a') × (x ≡ x') × (I ≡ I')
  unfolding SameStep
  one_step _ _ _ _ _ _ (releases d u l w) (releases d' u' l' w') = same_release d d' u u' (low_one d d' l l') w w'
  one_step _ _ _ _ _ _ (releases d u l w) (works new' z' c' f' i' wk') = absurd (c' d l.0)
  one_step _ _ _ _ _ _ (releases d u l w) (locks d' u' v' c' f' i' w' free' wu' wv') = absurd (c' d l.0)
  one_step _ _ _ _ _ _ (releases d u l w) (waits d' q' c' f' i' w' o') = absurd (c' d l.0)
  one_step _ _ _ _ _ _ (releases d u l w) (goes s' u' c' f' t' w') = absurd (c' d l.0)
  one_step _ _ _ _ _ _ (releases d u l w) (closes d' u' c' f' t' l' w') = absurd (c' d l.0)
  one_step _ _ _ _ _ _ (releases d u l w) (finishes c' f' t' n') = absurd (c' d l.0)
  one_step _ _ _ _ _ _ (works new z c f i wk) (releases d' u' l' w') = absurd (c d' l'.0)
  one_step _ _ _ _ _ _ (works new z c f i wk) (works new' z' c' f' i' wk') = same_work new new' z z' wk wk'
  one_step _ _ _ _ _ _ (works new z c f i wk) (locks d' u' v' c' f' i' w' free' wu' wv') = absurd (clash i i')
  one_step _ _ _ _ _ _ (works new z c f i wk) (waits d' q' c' f' i' w' o') = absurd (clash i i')
  one_step _ _ _ _ _ _ (works new z c f i wk) (goes s' u' c' f' t' w') = absurd (clash f' f)
  one_step _ _ _ _ _ _ (works new z c f i wk) (closes d' u' c' f' t' l' w') = absurd (clash f' f)
  one_step _ _ _ _ _ _ (works new z c f i wk) (finishes c' f' t' n') = absurd (clash f' f)
  one_step _ _ _ _ _ _ (locks d u v c f i w free wu wv) (releases d' u' l' w') = absurd (c d' l'.0)
  one_step _ _ _ _ _ _ (locks d u v c f i w free wu wv) (works new' z' c' f' i' wk') = absurd (clash i' i)
  one_step _ _ _ _ _ _ (locks d u v c f i w free wu wv) (locks d' u' v' c' f' i' w' free' wu' wv') =
      same_lock d d' u u' v v' (wanted_same d d' w w') wu wu' wv wv'
  one_step _ _ _ _ _ _ (locks d u v c f i w free wu wv) (waits d' q' c' f' i' w' o') =
      absurd (free q' (subst (Holds q') (wanted_same d' d w' w) o'))
  one_step _ _ _ _ _ _ (locks d u v c f i w free wu wv) (goes s' u' c' f' t' w') = absurd (clash f' f)
  one_step _ _ _ _ _ _ (locks d u v c f i w free wu wv) (closes d' u' c' f' t' l' w') = absurd (clash f' f)
  one_step _ _ _ _ _ _ (locks d u v c f i w free wu wv) (finishes c' f' t' n') = absurd (clash f' f)
  one_step _ _ _ _ _ _ (waits d q c f i w o) (releases d' u' l' w') = absurd (c d' l'.0)
  one_step _ _ _ _ _ _ (waits d q c f i w o) (works new' z' c' f' i' wk') = absurd (clash i' i)
  one_step _ _ _ _ _ _ (waits d q c f i w o) (locks d' u' v' c' f' i' w' free' wu' wv') =
      absurd (free' q (subst (Holds q) (wanted_same d d' w w') o))
  one_step _ _ _ _ _ _ (waits d q c f i w o) (waits d' q' c' f' i' w' o') = same_wait d d' q q' (wanted_same d d' w w') o o'
  one_step _ _ _ _ _ _ (waits d q c f i w o) (goes s' u' c' f' t' w') = absurd (clash f' f)
  one_step _ _ _ _ _ _ (waits d q c f i w o) (closes d' u' c' f' t' l' w') = absurd (clash f' f)
  one_step _ _ _ _ _ _ (waits d q c f i w o) (finishes c' f' t' n') = absurd (clash f' f)
  one_step _ _ _ _ _ _ (goes s u c f t w) (releases d' u' l' w') = absurd (c d' l'.0)
  one_step _ _ _ _ _ _ (goes s u c f t w) (works new' z' c' f' i' wk') = absurd (clash f f')
  one_step _ _ _ _ _ _ (goes s u c f t w) (locks d' u' v' c' f' i' w' free' wu' wv') = absurd (clash f f')
  one_step _ _ _ _ _ _ (goes s u c f t w) (waits d' q' c' f' i' w' o') = absurd (clash f f')
  one_step _ _ _ _ _ _ (goes s u c f t w) (goes s' u' c' f' t' w') = same_go s s' u u' (some_same (sym t ∙ t')) w w'
  one_step _ _ _ _ _ _ (goes s u c f t w) (closes d' u' c' f' t' l' w') = absurd (no_arc s t t')
  one_step _ _ _ _ _ _ (goes s u c f t w) (finishes c' f' t' n') = absurd (no_arc s t t')
  one_step _ _ _ _ _ _ (closes d u c f t l w) (releases d' u' l' w') = absurd (c d' l'.0)
  one_step _ _ _ _ _ _ (closes d u c f t l w) (works new' z' c' f' i' wk') = absurd (clash f f')
  one_step _ _ _ _ _ _ (closes d u c f t l w) (locks d' u' v' c' f' i' w' free' wu' wv') = absurd (clash f f')
  one_step _ _ _ _ _ _ (closes d u c f t l w) (waits d' q' c' f' i' w' o') = absurd (clash f f')
  one_step _ _ _ _ _ _ (closes d u c f t l w) (goes s' u' c' f' t' w') = absurd (no_arc s' t' t)
  one_step _ _ _ _ _ _ (closes d u c f t l w) (closes d' u' c' f' t' l' w') = same_release d d' u u' (low_one d d' l l') w w'
  one_step _ _ _ _ _ _ (closes d u c f t l w) (finishes c' f' t' n') = absurd (clash l.0 (n' d))
  one_step _ _ _ _ _ _ (finishes c f t n) (releases d' u' l' w') = absurd (c d' l'.0)
  one_step _ _ _ _ _ _ (finishes c f t n) (works new' z' c' f' i' wk') = absurd (clash f f')
  one_step _ _ _ _ _ _ (finishes c f t n) (locks d' u' v' c' f' i' w' free' wu' wv') = absurd (clash f f')
  one_step _ _ _ _ _ _ (finishes c f t n) (waits d' q' c' f' i' w' o') = absurd (clash f f')
  one_step _ _ _ _ _ _ (finishes c f t n) (goes s' u' c' f' t' w') = absurd (no_arc s' t' t)
  one_step _ _ _ _ _ _ (finishes c f t n) (closes d' u' c' f' t' l' w') = absurd (clash l'.0 (n d'))
  one_step _ _ _ _ _ _ (finishes c f t n) (finishes c' f' t' n') = (refl, refl, refl)

module _ {V : Type 0} (W : Workload) (F : WellFormed W) (K : Kind V) (first : List V) (b : Journal V) (m : Table V) (h : History)
    (H : HoldsGood W K first b m h) where
  same_table
      : (n n' : Table V) (p : ℕ) (x y : Option Job) → x ≡ y → Placed m p x n → Placed m p y n' → n.values ≡ n'.values → n ≡ n'
  same_table n n' p x y e P Q f = λ i. record { values = f i; places = same i }
    where
      same : n.places ≡ n'.places
      same = fun_ext (λ q. elim (ℕ_discrete q p) [
        | yes z ↦ ap n.places z ∙ P.there ∙ e ∙ sym (ap n'.places z ∙ Q.there)
        | no z ↦ P.elsewhere q z ∙ sym (Q.elsewhere q z)
      ])

  -- one item has one holder
  one_holder : (q o d : ℕ) → HoldsAt m q d → HoldsAt m o d → q ≡ o
  one_holder q o d s r =
      let a = H.seated q s.0 s.1 in
      let c = H.seated o r.0 r.1 in
      let ja = H.known q a.0 a.1 in
      let jc = H.known o c.0 c.1 in
      let ha = ap (λ (I : Job). I.held d) a.2 ∙ s.2 in
      let hc = ap (λ (I : Job). I.held d) c.2 ∙ r.2 in
      let la = (H.good a.0 ja).held_locked d ha in
      let lc = (H.good c.0 jc).held_locked d hc in
      let x : h.at c.0 d ≤ h.at a.0 d = H.kept.latest a.0 c.0 d ja jc ha lc in
      let y : h.at a.0 d ≤ h.at c.0 d = H.kept.latest c.0 a.0 d jc ja hc la in
      let e = H.kept.apart a.0 c.0 d ja jc la lc (omega arith) in
      H.one_place q o c.0 (a.1 ∙ ap some e) c.1

  step_once
      : (p : ℕ) (J J' I I' : Job) (a a' : Told) (n n' : Table V) → m.places p ≡ some J → m.places p ≡ some J'
      → Steps W K (HoldsAt m) m.values J a n.values I → Steps W K (HoldsAt m) m.values J' a' n'.values I'
      → Placed m p (seat I) n → Placed m p (seat I') n' → (told a ≡ told a') × (n ≡ n')
  step_once p J J' I I' a a' n n' e e' st st' P P' =
      let s = H.seated p J e in
      let G = subst (Good W (h.root s.0)) s.2 (H.good s.0 (H.known p s.0 s.1)) in
      let o =
      one_step W K (HoldsAt m) m.values J (wanted_one W F (h.root s.0) J G) one_holder a a' n.values
      n'.values I I' st
      (subst (λ (x : Job). Steps W K (HoldsAt m) m.values x a' n'.values I') (some_same (sym e' ∙ e)) st')
      in
      (ap told o.0, same_table n n' p (seat I) (seat I') (ap seat o.2) P P' o.1)

  pub one_move : (c : Call) (a a' : Answer) (n n' : Table V) → Moves W K m c a n → Moves W K m c a' n' → (a ≡ a') × (n ≡ n')
  one_move _ _ _ _ _ (begin_unfit p t a fit) (begin_unfit p' t' a' fit') = (refl, refl)
  one_move _ _ _ _ _ (begin_unfit p t a fit) (begin_no_place p' t' a' fit' hp') = absurd (fit fit')
  one_move _ _ _ _ _ (begin_unfit p t a fit) (begin_no_type p' t' a' fit' hp' ht') = absurd (fit fit')
  one_move _ _ _ _ _ (begin_unfit p t a fit) (begin_taken p' t' a' J' fit' hp' ht' e') = absurd (fit fit')
  one_move _ _ _ _ _ (begin_unfit p t a fit) (begins p' t' a' n' fit' hp' ht' e' vs' P') = absurd (fit fit')
  one_move _ _ _ _ _ (begin_no_place p t a fit hp) (begin_unfit p' t' a' fit') = absurd (fit' fit)
  one_move _ _ _ _ _ (begin_no_place p t a fit hp) (begin_no_place p' t' a' fit' hp') = (refl, refl)
  one_move _ _ _ _ _ (begin_no_place p t a fit hp) (begin_no_type p' t' a' fit' hp' ht') = absurd (hp hp')
  one_move _ _ _ _ _ (begin_no_place p t a fit hp) (begin_taken p' t' a' J' fit' hp' ht' e') = absurd (hp hp')
  one_move _ _ _ _ _ (begin_no_place p t a fit hp) (begins p' t' a' n' fit' hp' ht' e' vs' P') = absurd (hp hp')
  one_move _ _ _ _ _ (begin_no_type p t a fit hp ht) (begin_unfit p' t' a' fit') = absurd (fit' fit)
  one_move _ _ _ _ _ (begin_no_type p t a fit hp ht) (begin_no_place p' t' a' fit' hp') = absurd (hp' hp)
  one_move _ _ _ _ _ (begin_no_type p t a fit hp ht) (begin_no_type p' t' a' fit' hp' ht') = (refl, refl)
  one_move _ _ _ _ _ (begin_no_type p t a fit hp ht) (begin_taken p' t' a' J' fit' hp' ht' e') = absurd (ht ht')
  one_move _ _ _ _ _ (begin_no_type p t a fit hp ht) (begins p' t' a' n' fit' hp' ht' e' vs' P') = absurd (ht ht')
  one_move _ _ _ _ _ (begin_taken p t a J fit hp ht e) (begin_unfit p' t' a' fit') = absurd (fit' fit)
  one_move _ _ _ _ _ (begin_taken p t a J fit hp ht e) (begin_no_place p' t' a' fit' hp') = absurd (hp' hp)
  one_move _ _ _ _ _ (begin_taken p t a J fit hp ht e) (begin_no_type p' t' a' fit' hp' ht') = absurd (ht' ht)
  one_move _ _ _ _ _ (begin_taken p t a J fit hp ht e) (begin_taken p' t' a' J' fit' hp' ht' e') = (refl, refl)
  one_move _ _ _ _ _ (begin_taken p t a J fit hp ht e) (begins p' t' a' n' fit' hp' ht' e' vs' P') =
      absurd (none_some (sym e' ∙ e))
  one_move _ _ _ _ _ (begins p t a n fit hp ht e vs P) (begin_unfit p' t' a' fit') = absurd (fit' fit)
  one_move _ _ _ _ _ (begins p t a n fit hp ht e vs P) (begin_no_place p' t' a' fit' hp') = absurd (hp' hp)
  one_move _ _ _ _ _ (begins p t a n fit hp ht e vs P) (begin_no_type p' t' a' fit' hp' ht') = absurd (ht' ht)
  one_move _ _ _ _ _ (begins p t a n fit hp ht e vs P) (begin_taken p' t' a' J' fit' hp' ht' e') = absurd (none_some (sym e ∙ e'))
  one_move _ _ _ _ _ (begins p t a n fit hp ht e vs P) (begins p' t' a' n' fit' hp' ht' e' vs' P') =
      (refl, same_table n n' p _ _ refl P P' (vs ∙ sym vs'))
  one_move _ _ _ _ _ (step_no_place p hp) (step_no_place p' hp') = (refl, refl)
  one_move _ _ _ _ _ (step_no_place p hp) (step_no_job p' hp' k') = absurd (hp hp')
  one_move _ _ _ _ _ (step_no_place p hp) (steps p' J' K' a' n' hp' e' f' st' P') = absurd (hp hp')
  one_move _ _ _ _ _ (step_no_job p hp k) (step_no_place p' hp') = absurd (hp' hp)
  one_move _ _ _ _ _ (step_no_job p hp k) (step_no_job p' hp' k') = (refl, refl)
  one_move _ _ _ _ _ (step_no_job p hp k) (steps p' J' K' a' n' hp' e' f' st' P') = absurd (clash (k J' e') f')
  one_move _ _ _ _ _ (steps p J K a n hp e f st P) (step_no_place p' hp') = absurd (hp' hp)
  one_move _ _ _ _ _ (steps p J K a n hp e f st P) (step_no_job p' hp' k') = absurd (clash (k' J e) f)
  one_move _ _ _ _ _ (steps p J K a n hp e f st P) (steps p' J' K' a' n' hp' e' f' st' P') =
      step_once p J J' K K' a a' n n' e e' st st' P P'
  one_move _ _ _ _ _ (collect_none p k) (collect_none p' k') = (refl, refl)
  one_move _ _ _ _ _ (collect_none p k) (collect_early p' J' e' k' f') = absurd (clash k' (k J' e'))
  one_move _ _ _ _ _ (collect_none p k) (collects p' J' n' e' k' f' vs' P') = absurd (clash k' (k J' e'))
  one_move _ _ _ _ _ (collect_early p J e k f) (collect_none p' k') = absurd (clash k (k' J e))
  one_move _ _ _ _ _ (collect_early p J e k f) (collect_early p' J' e' k' f') = (refl, refl)
  one_move _ _ _ _ _ (collect_early p J e k f) (collects p' J' n' e' k' f' vs' P') =
      absurd (clash f' (ap (λ (I : Job). I.has_finished) (some_same (sym e' ∙ e)) ∙ f))
  one_move _ _ _ _ _ (collects p J n e k f vs P) (collect_none p' k') = absurd (clash k (k' J e))
  one_move _ _ _ _ _ (collects p J n e k f vs P) (collect_early p' J' e' k' f') =
      absurd (clash f (ap (λ (I : Job). I.has_finished) (some_same (sym e ∙ e')) ∙ f'))
  one_move _ _ _ _ _ (collects p J n e k f vs P) (collects p' J' n' e' k' f' vs' P') =
      (ap (λ (I : Job). collected I.register) (some_same (sym e ∙ e')), same_table n n' p _ _ refl P P' (vs ∙ sym vs'))
  one_move _ _ _ _ _ (leave_none p k) (leave_none p' k') = (refl, refl)
  one_move _ _ _ _ _ (leave_none p k) (leaves_finished p' J' n' e' k' f' vs' P') = absurd (clash k' (k J' e'))
  one_move _ _ _ _ _ (leave_none p k) (leaves_unfinished p' J' n' e' k' f' vs' P') = absurd (clash k' (k J' e'))
  one_move _ _ _ _ _ (leaves_finished p J n e k f vs P) (leave_none p' k') = absurd (clash k (k' J e))
  one_move _ _ _ _ _ (leaves_finished p J n e k f vs P) (leaves_finished p' J' n' e' k' f' vs' P') =
      (refl, same_table n n' p _ _ refl P P' (vs ∙ sym vs'))
  one_move _ _ _ _ _ (leaves_finished p J n e k f vs P) (leaves_unfinished p' J' n' e' k' f' vs' P') =
      absurd (clash f (ap (λ (I : Job). I.has_finished) (some_same (sym e ∙ e')) ∙ f'))
  one_move _ _ _ _ _ (leaves_unfinished p J n e k f vs P) (leave_none p' k') = absurd (clash k (k' J e))
  one_move _ _ _ _ _ (leaves_unfinished p J n e k f vs P) (leaves_finished p' J' n' e' k' f' vs' P') =
      absurd (clash f' (ap (λ (I : Job). I.has_finished) (some_same (sym e' ∙ e)) ∙ f))
  one_move _ _ _ _ _ (leaves_unfinished p J n e k f vs P) (leaves_unfinished p' J' n' e' k' f' vs' P') =
      (refl, same_table n n' p _ _ (ap (λ (I : Job). some (not_awaited I)) (some_same (sym e ∙ e'))) P P' (vs ∙ sym vs'))
