-- Look-ups in a plan decide what may go.
use Rattle.std.proofs.Common.{◌≡◌, ℕ, ◌<◌, true, false, not, ◌&&◌, ◌||◌, ◌⊎◌, ◌↔◌, get_or, sym, ◌∙◌, inl, inr}
use Rattle.std.proofs.lemmas.Bool.{and_cases, and_from, and_left, and_parts, and_right, both_ways, false_from_ne_true, not-false, not-true, not_from_false, not_from_true, or_cases, or_left, or_right}
use Rattle.model.specs.Workload.{Workload, LocalChild, Named}
use Rattle.model.specs.Table.{MayGo}
use Rattle.itemset.specs.declared.ItemSet.{ItemSet}
use Rattle.itemset.specs.Members.{holds, nothing}
use Rattle.rules.specs.Plans.{Planned}
use Rattle.rules.specs.declared.plan.Plan.{Plan}
use Rattle.jobs.specs.declared.record.JobRecord.{JobRecord}
use Rattle.jobs.specs.View.{job_view}

-- d is an idle item whose children have all passed
abbrev pub IdleAndPassed : Plan → ItemSet → ItemSet → ℕ → Type 0
IdleAndPassed p idle passed d = (holds idle d ≡ true) × ((c : ℕ) → holds (get_or p.children d nothing) c ≡ true → holds passed c ≡ true)

module _ (W : Workload) (R : JobRecord) (p : Plan) (plan_of_type : Planned W R.job_type p)
    (held_low : (x : ℕ) → holds R.held x ≡ true → x < W.items)
    (needed idle both passed : ItemSet)
    (n : (e : ℕ) → holds needed e ≡ (holds p.named e && not (holds R.done e)))
    (i : (e : ℕ) → holds idle e ≡ (holds R.held e && not (holds needed e)))
    (b : (e : ℕ) → holds both e ≡ (holds p.leaves e && holds R.done e))
    (a : (e : ℕ) → holds passed e ≡ (holds R.locked e || holds both e)) where
  child : (d c : ℕ) → holds R.held d ≡ true → (holds (get_or p.children d nothing) c ≡ true) ↔ LocalChild W R.job_type d c
  child d c h = plan_of_type.children d (held_low d h) c

  unneeded : (d : ℕ) → holds needed d ≡ false → (holds R.done d ≡ true) ⊎ ¬ Named W R.job_type d
  unneeded d f =
      elim (and_cases (holds p.named d) (not (holds R.done d)) (sym (n d) ∙ f)) [
        | inl e ↦ inr (λ k. both_ways (holds p.named d) e ((plan_of_type.named d).1 k))
        | inr e ↦ inl (not-false (holds R.done d) e)
      ]

  not_needed : (d : ℕ) → (holds R.done d ≡ true) ⊎ ¬ Named W R.job_type d → holds needed d ≡ false
  not_needed d u = n d ∙ elim u [
    | inl e ↦ and_right (holds p.named d) (not (holds R.done d)) (not_from_true (holds R.done d) e)
    | inr k ↦ and_left (holds p.named d) (not (holds R.done d)) (false_from_ne_true (holds p.named d) (λ e. k ((plan_of_type.named d).0 e)))
  ]

  goes : (d : ℕ) → IdleAndPassed p idle passed d → MayGo W (job_view R) d
  goes d f =
      let q = and_parts (holds R.held d) (not (holds needed d)) (sym (i d) ∙ f.0) in
      record {
        is_held = q.0;
        unneeded = unneeded d (not-true (holds needed d) q.1);
        passed = λ c k. elim (or_cases (holds R.locked c) (holds both c) (sym (a c) ∙ f.1 c ((child d c q.0).1 k))) [
          | inl x ↦ inl x
          | inr x ↦ (let q = and_parts (holds p.leaves c) (holds R.done c) (sym (b c) ∙ x) in inr ((plan_of_type.leaves c).0 q.0, q.1))
        ];
      }

  found : (d : ℕ) → MayGo W (job_view R) d → IdleAndPassed p idle passed d
  found d g = (
    i d ∙ and_from (holds R.held d) (not (holds needed d)) g.is_held (not_from_false (holds needed d) (not_needed d g.unneeded)),
    λ c k. a c ∙ elim (g.passed c ((child d c g.is_held).0 k)) [
      | inl x ↦ or_left (holds R.locked c) (holds both c) x
      | inr x ↦ or_right (holds R.locked c) (holds both c) (b c ∙ and_from (holds p.leaves c) (holds R.done c) ((plan_of_type.leaves c).1 x.0) x.1)
    ],
  )

  pub decides_going : (d : ℕ) → IdleAndPassed p idle passed d ↔ MayGo W (job_view R) d
  decides_going d = (goes d, found d)
