use Rattle.std.proofs.Common.{◌≡◌, ℕ, ◌+◌, ◌*◌, ◌≤◌, List, length, Ok, Err, refl, ap, ◌∙◌, subst, arith}
use Rattle.rules.specs.declared.state.State.{State}
use Rattle.rules.specs.Rules.{Connected, Lowest, Placed, StraysAt}
use Rattle.workload.specs.declared.fault.Fault.TheVariants.{Stray}
use Rattle.workload.specs.Reads.{stops, goes, stray, joined, Several, StateRecord}
use Rattle.workload.proofs.Parts.{at_end, handed, several_many, strays_lowest}
use Rattle.workload.proofs.Ranges.{records_long}
use Rattle.workload.proofs.read.Rest.job_type.Goals as goal

-- a state that strays, of those whose records have been read
record Strays (k : ℕ) (bs : List ℕ) (xs : List State) (rest : List ℕ) (s : ℕ) : Type 0 where
  pub many : length xs ≡ k
  pub long : length rest + 11 * k ≡ length bs
  pub lowest : Lowest (Placed xs) (length xs) s

strays
    : (items codes k end : ℕ) (bs : List ℕ) (xs ys : List State) (rest : List ℕ) (s : ℕ) → k ≤ 32
    → Several (StateRecord items codes k end) k bs (Ok (xs, rest)) → ys ≡ xs → StraysAt ys s → Strays k bs xs rest s
strays items codes k end bs xs ys rest s h r e b =
    let m = several_many (StateRecord items codes k end) k bs xs rest r in
    record {
      many = m;
      long = records_long items codes k end k bs xs rest r;
      lowest = strays_lowest xs s (omega arith) (subst (λ (zs : List State). StraysAt zs s) e b);
    }

pub returns-in_err-count : goal.returns-in_err-count
returns-in_err-count c =
    let n = c.in_err-count.ensures.answer in
    (n.0, rw (handed _ _ c.from_residual.ensures.1) (stops _ n.1 refl))

pub returns-in_err-records : goal.returns-in_err-records
returns-in_err-records c =
    let n = c.in_ok-count.ensures.answer in
    let r = c.in_err-records.ensures in
    let P = λ (end : ℕ). Several (StateRecord c.args.sizes.items c.args.sizes.codes c.in_ok-count.count end) c.in_ok-count.count in
    (r.0 ∙ n.0, rw (handed _ _ c.from_residual-in_err-records.ensures.1) (goes _ _ n.1 (stops _ (at_end P n.0 r.1) refl)))

pub overflow_sub-result : goal.overflow_sub-result
overflow_sub-result c =
    let g = strays _ _ c.in_ok-count.count _ _ c.records.new.states c.as_slice.result.now _ c.in-Some.s c.in_ok-count.ensures.range.1 c.in_ok-records.ensures.1 c.as_slice.ensures c.in-Some.ensures in
    omega (arith, g.lowest.0)

pub overflow_sub-result-in-Some : goal.overflow_sub-result-in-Some
overflow_sub-result-in-Some c =
    let g = strays _ _ c.in_ok-count.count _ _ c.records.new.states c.as_slice.result.now _ c.in-Some.s c.in_ok-count.ensures.range.1 c.in_ok-records.ensures.1 c.as_slice.ensures c.in-Some.ensures in
    omega (arith, g.lowest.0, c.in_ok-records.ensures.0, c.count.new.self.within)

pub returns-in-Some : goal.returns-in-Some
returns-in-Some c =
    let k = c.in_ok-count.count in
    let xs = c.records.new.states in
    let rest = c.records.new.self in
    let n = c.in_ok-count.ensures.answer in
    let r = c.in_ok-records.ensures in
    let g = strays _ _ k _ _ xs c.as_slice.result.now _ c.in-Some.s c.in_ok-count.ensures.range.1 r.1 c.as_slice.ensures c.in-Some.ensures in
    let P = λ (end : ℕ). Several (StateRecord c.args.sizes.items c.args.sizes.codes k end) k in
    let e = r.0 ∙ n.0 in
    (e, goes _ _ n.1 (goes _ _ (at_end P n.0 r.1) (stray c.in-Some.s g.lowest (ap (λ (p : ℕ). Err (Stray p)) (omega (arith, g.many))))))

pub returns : goal.returns
returns c =
    let n = c.in_ok-count.ensures.answer in
    let r = c.in_ok-records.ensures in
    let P = λ (end : ℕ). Several (StateRecord c.args.sizes.items c.args.sizes.codes c.in_ok-count.count end) c.in_ok-count.count in
    (r.0 ∙ n.0, goes _ _ n.1 (goes _ _ (at_end P n.0 r.1) (joined (subst Connected c.as_slice.ensures c.in_default.ensures.1) refl)))
