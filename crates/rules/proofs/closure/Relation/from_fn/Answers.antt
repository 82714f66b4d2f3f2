use Rattle.std.proofs.Common.{arith}
use denote.Param.Members.{step_gives, step_stays_lem}
use Rattle.rules.proofs.Made.{callable_below, made_each}
use Rattle.rules.proofs.closure.Relation.from_fn.Goals as goal

pub from_fn-requires : goal.from_fn-requires
from_fn-requires g c = (
  omega arith,
  callable_below _ c.args.f (λ s y q k. step_stays_lem g.F.Fn c.args.f (s, tt) y q g.met.F.Fn.1 (record { met = k.met })) g.row.N c.requires.callable,
)

pub returns : goal.returns
returns g c = λ s l. made_each _ c.args.f (λ k y q h. step_stays_lem g.F.Fn c.args.f (k, tt) y q g.met.F.Fn.1 (record { met = h.met }))
    (λ k y. g.F.Fn.post c.args.f (k, tt) y) (λ k y q h. step_gives g.F.Fn c.args.f (k, tt) y q g.met.F.FnMut.1 (record { met = h.met }))
    c.from_fn.result 0 g.row.N c.from_fn.ensures.items.each s _ (omega arith) (omega arith)
