-- What a job may lock next: at its begin, and after it locked an item.
use Rattle.std.proofs.Common.{◌≡◌, ◌==◌, ℕ, ◌<◌, Bool, true, false, not, ◌&&◌, ◌||◌, ℤ, sym, refl, ◌∙◌, subst, inl, inr}
use mathlib.Core.Logic.{∥∥₁_elim, ∥∥₁_map}
use Rattle.std.proofs.lemmas.Bool.{and_from, and_parts, both_ways, eq-eqb, eqb-true, false_from_ne_true, not_from_false, not-true, or_cases, or_left, or_right}
use Rattle.itemset.specs.declared.ItemSet.{ItemSet}
use Rattle.itemset.specs.Members.{holds}
use Rattle.model.specs.Workload.{Workload, WellFormed, Above, self, over, LocalChild, LocalRoot}
use Rattle.model.specs.Table.{Job, Wanted, With, new_job}
use Rattle.model.specs.Sound.{Good}
use Rattle.model.proofs.Job.{clash, with_cases, with_more}
use Rattle.model.proofs.Tree.{root_one}
use Rattle.rules.specs.Sets.{Exactly}
use Rattle.jobs.specs.View.{MayLock, NextOf, Sound, job_view}
use Rattle.jobs.specs.declared.record.JobRecord.{JobRecord}
use Rattle.jobs.proofs.Climbs.{bool_set, locked_above}

-- a change of the record that changes neither the type nor what was locked
pub next_kept
    : (W : Workload) (J : Job) (R : JobRecord) (next : ItemSet) → job_view R ≡ J → R.next ≡ next → NextOf W J next → NextOf W (job_view R) R.next
next_kept W J R next e f h = subst (λ (m : ItemSet). NextOf W (job_view R) m) (sym f) (subst (λ (I : Job). NextOf W I next) (sym e) h)

module _ (W : Workload) (F : WellFormed W) where
  -- a new job may lock the local root
  pub next_new
      : (t root : ℕ) (a : ℤ) → t < W.types → LocalRoot W t root → (next : ItemSet) → Exactly next (λ d. d ≡ root) → NextOf W (new_job t a) next
  next_new t root a h r next e d = (
    λ q. subst (λ (x : ℕ). MayLock W t (λ y. false) x) (sym ((e d).0 q)) (record { never_locked = refl; reached = ∣ inl r ∣₁ }),
    λ m. ∥∥₁_elim m.reached (λ p q. bool_set p q) (λ q. (e d).1 (elim q [ inl y ↦ root_one W F t h y r | inr y ↦ absurd (clash y.2 refl) ])),
  )

  -- the item d, which the job wanted, is locked
  module _ (J : Job) (S : Sound W J) (d : ℕ) (w : Wanted W J d) (locked : ℕ → Bool) (more : With J.ever_locked d locked) where
    -- a child of d was never locked before d
    never_child : (c : ℕ) → LocalChild W J.type d c → J.ever_locked c ≡ false
    never_child c k = false_from_ne_true (J.ever_locked c) (λ e. ∥∥₁_elim S (λ (u v : ⊥). absurd u) (λ g. clash (locked_first g.0 g.1 e) w.never_locked))
      where
        locked_first : (r : ℕ) → Good W r J → J.ever_locked c ≡ true → J.ever_locked d ≡ true
        locked_first r G e =
            let a : Above W d c = over c k.not_top (subst (λ (z : ℕ). Above W z (W.up c)) k.right_below self) in
            locked_above W F J r G a (subst (λ (z : ℕ). Above W z d) (root_one W F J.type G.type_ok w.is_root G.is_root) w.below_root) e

    pub next_locked
        : (old below next : ItemSet) → NextOf W J old → Exactly below (LocalChild W J.type d)
        → ((x : ℕ) → holds next x ≡ ((holds old x || holds below x) && not (x == d))) → Exactly next (MayLock W J.type locked)
    next_locked old below next o b n x = (to, from)
      where
        to : holds next x ≡ true → MayLock W J.type locked x
        to e =
            let q = and_parts (holds old x || holds below x) (not (x == d)) (sym (n x) ∙ e) in
            let away : ¬ (x ≡ d) = λ h. both_ways (x == d) (not-true (x == d) q.1) (eq-eqb x d h) in
            elim (or_cases (holds old x) (holds below x) q.0) [
              | inl h ↦ (let m = (o x).0 h in
                  record {
                    never_locked = more.1 x away ∙ m.never_locked;
                    reached = ∥∥₁_map m.reached (λ y. elim y [ inl r ↦ inl r | inr p ↦ inr (p.0, p.1, with_more p.0 more p.2) ]);
                  })
              | inr h ↦ (let k = (b x).0 h in record { never_locked = more.1 x away ∙ never_child x k; reached = ∣ inr (d, k, more.0) ∣₁ })
            ]

        from : MayLock W J.type locked x → holds next x ≡ true
        from m =
            let away : ¬ (x ≡ d) = λ h. clash (subst (λ (z : ℕ). locked z ≡ true) (sym h) more.0) m.never_locked in
            let never : J.ever_locked x ≡ false = sym (more.1 x away) ∙ m.never_locked in
            let there : (holds old x || holds below x) ≡ true = ∥∥₁_elim m.reached (λ p q. bool_set p q) (λ y. elim y [
              | inl r ↦ or_left (holds old x) (holds below x) ((o x).1 (record { never_locked = never; reached = ∣ inl r ∣₁ }))
              | inr p ↦ elim (with_cases p.0 more p.2) [
                | inl h ↦ or_right (holds old x) (holds below x) ((b x).1 (subst (λ (z : ℕ). LocalChild W J.type z x) h p.1))
                | inr h ↦ or_left (holds old x) (holds below x) ((o x).1 (record { never_locked = never; reached = ∣ inr (p.0, p.1, h) ∣₁ }))
              ]
            ]) in
            n x ∙ and_from (holds old x || holds below x) (not (x == d)) there (not_from_false (x == d) (false_from_ne_true (x == d) (λ h. away (eqb-true x d h))))
