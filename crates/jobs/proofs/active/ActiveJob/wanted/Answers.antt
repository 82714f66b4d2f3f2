use Rattle.std.proofs.Common.{◌≡◌, ℕ, true, false, Option, Some, None, sym, refl, ◌∙◌}
use Rattle.std.specs.Option.{IsSome, MatchOption}
use Rattle.std.proofs.lemmas.Bool.{and_from, and_parts, both_ways}
use Rattle.itemset.specs.declared.ItemSet.{ItemSet}
use Rattle.itemset.specs.Members.{holds}
use Rattle.model.specs.Workload.{self}
use Rattle.model.proofs.Tree.{local_item, local_root}
use Rattle.workload.specs.View.{view}
use Rattle.workload.proofs.Uses.{well_formed}
use Rattle.jobs.specs.View.{job_view}
use Rattle.jobs.proofs.Actives.{type_ok, state_ok}
use Rattle.jobs.proofs.Climbs.{never_locked, next_above, wanted_next}
use Rattle.jobs.proofs.active.ActiveJob.wanted.Goals as goal

-- a set that holds some number has a lowest one
has_lowest : (x : ItemSet) (o : Option ℕ) (P : ℕ → Type 0) → MatchOption o ((e : ℕ) → holds x e ≡ false) P → (d : ℕ) → holds x d ≡ true → IsSome o
has_lowest x None P m d h = absurd (both_ways (holds x d) (m d) h)
has_lowest x (Some e) P m d h = refl

-- the way up from the state's item, which was never locked, meets one that may be locked next
pub unwrap-requires : goal.unwrap-requires
unwrap-requires c =
    let a = c.args.self.now in
    let W = view a.workload.now in
    let F = well_formed a.workload.now in
    let J = job_view a.job.now in
    let root = local_root W F a.job.now.job_type (type_ok a) in
    let item = W.item a.job.now.job_type a.job.now.state in
    let n = never_locked W F J a.sound.job c.requires.unworked c.requires.free in
    let d = next_above W F J root.0 root.1 (state_ok a) (root.1.common item (a.job.now.state, state_ok a, refl)) self n in
    let i = c.intersection.ensures d.0 ∙ and_from (holds a.job.now.next d.0) (holds c.way.result d.0) ((a.sound.next d.0).1 d.1) ((c.way.ensures d.0).1 (d.2, d.3)) in
    has_lowest c.intersection.result c.lowest.result _ c.lowest.ensures d.0 i

pub returns : goal.returns
returns c =
    let a = c.args.self.now in
    let W = view a.workload.now in
    let F = well_formed a.workload.now in
    let d = c.unwrap.result in
    let found = rw c.unwrap.ensures at c.lowest.ensures in
    let q = and_parts (holds a.job.now.next d) (holds c.way.result d) (sym (c.intersection.ensures d) ∙ found.0) in
    let w = (c.way.ensures d).0 q.1 in
    record {
      wants = wanted_next W F (job_view a.job.now) d a.sound.job ((a.sound.next d).0 q.0) w.0 w.1;
      small = local_item W F a.job.now.job_type (type_ok a) w.0;
    }
