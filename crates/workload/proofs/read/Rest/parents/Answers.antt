use Rattle.std.proofs.Common.{ℕ, List, Ok, sym, refl, subst, arith}
use Rattle.workload.specs.Reads.{Parents}
use Rattle.workload.proofs.Parts.{breaks_lowest, parents_broken, parents_tree}
use Rattle.workload.proofs.read.Rest.parents.Goals as goal

pub returns-in-Err : goal.returns-in-Err
returns-in-Err c =
    let bs = c.args.self.now.bytes.now in
    let s = c.in-Some.ensures.cases in
    let ps = c.in-Some.parents.now in
    let i = c.in-Err.i in
    (refl, rw c.place.ensures (parents_broken c.args.n c.args.self.now.end bs ps i (omega arith) s.1 s.3 (breaks_lowest ps i (omega (arith, s.3)) c.in-Err.ensures)))

pub returns : goal.returns
returns c =
    let bs = c.args.self.now.bytes.now in
    let s = c.in-Some.ensures.cases in
    let rest = c.in-Some.rest.now in (
      refl,
      subst (λ (ps : List ℕ). Parents c.args.n c.args.self.now.end bs (Ok (ps, rest))) (sym c.in-Ok.ensures.0)
          (parents_tree c.args.n c.args.self.now.end bs c.in-Some.parents.now rest (omega arith) s.1 s.2 s.3 c.in-Ok.ensures.1.1),
    )
