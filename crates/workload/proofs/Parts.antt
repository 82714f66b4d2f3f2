-- The parts of a file: one after the other, and at most one answer each.
use Rattle.std.proofs.Common.{◌≡◌, ℕ, zero, suc, ◌+◌, ◌-◌, ◌<◌, ◌≤◌, List, [], ◌∷◌, ◌++◌, length, take, drop, Ok, Err, Result, IsErrAnd, sym, refl, ap, ◌∙◌, subst, add-one, arith}
use Rattle.std.proofs.lemmas.Result.{err_from_is_err_and}
use Rattle.workload.specs.declared.fault.Fault.{Fault}
use Rattle.workload.specs.declared.fault.Fault.TheVariants.{Tree}
use Rattle.rules.specs.declared.state.State.{State}
use Rattle.rules.specs.Rules.{BreaksAt, Lowest, Placed, Rooted, StraysAt, stray, too_many_items, too_many_states, unrooted}
use Rattle.workload.specs.Reads.{Answer, Part, Done, Then, stops, goes, Several, Parents, broken, tree}

pub same_ok : {X : Type 0} (p q : X) → ◌≡◌ {A = Result X Fault} (Ok p) (Ok q) → p ≡ q
same_ok p q e = cc

pub same_err : {X : Type 0} (f g : Fault) → ◌≡◌ {A = Result X Fault} (Err f) (Err g) → f ≡ g
same_err f g e = cc

pub ok_err : {X : Type 0} (p : X) (f : Fault) → ◌≡◌ {A = Result X Fault} (Ok p) (Err f) → ⊥
ok_err p f e = let z : ◌≡◌ {A = ℕ} 0 1 = cc in omega arith

module _ {X : Type 0} where
  pub value_same : (x y : X) (r s : List ℕ) → ◌≡◌ {A = Answer X} (Ok (x, r)) (Ok (y, s)) → x ≡ y
  value_same x y r s e = ap (λ (z : X × List ℕ). z.0) (same_ok (x, r) (y, s) e)

  pub rest_same : (x y : X) (r s : List ℕ) → ◌≡◌ {A = Answer X} (Ok (x, r)) (Ok (y, s)) → r ≡ s
  rest_same x y r s e = ap (λ (z : X × List ℕ). z.1) (same_ok (x, r) (y, s) e)

-- a `?` hands the fault on
pub handed : {X : Type 0} (r : Result X Fault) (f : Fault) → IsErrAnd r (λ g. g ≡ f) → r ≡ Err f
handed r f h = let p = err_from_is_err_and r h in p.1 ∙ ap (λ (g : Fault). Err g) p.2

-- two places that are the same end of a file
pub at_end : {X : Type 0} (P : ℕ → Part X) {e f : ℕ} {bs : List ℕ} {a : Answer X} → e ≡ f → P e bs a → P f bs a
at_end P {bs = bs} {a = a} h p = subst (λ (n : ℕ). P n bs a) h p

-- what a sequence that came to its end has read
pub then_open : {X Y : Type 0} (P : Part X) (Q : X → Part Y) (bs : List ℕ) (y : Y) (end : List ℕ) → Then P Q bs (Ok (y, end))
    → (x : X) × (rest : List ℕ) × P bs (Ok (x, rest)) × Q x rest (Ok (y, end))
then_open P Q bs y end (stops f p e) = absurd (ok_err (y, end) f e)
then_open P Q bs y end (goes x rest p q) = (x, rest, p, q)

pub several_open : {X : Type 0} (P : Part X) (k : ℕ) (bs : List ℕ) (xs : List X) (rest : List ℕ) → Several P (suc k) bs (Ok (xs, rest))
    → (x : X) × (next : List ℕ) × (ys : List X) × P bs (Ok (x, next)) × Several P k next (Ok (ys, rest)) × (xs ≡ x ∷ ys)
several_open P k bs xs rest h =
    let o = then_open P (λ x. Then (Several P k) (λ ys. Done (x ∷ ys))) bs xs rest h in
    let i = then_open (Several P k) (λ ys. Done (o.0 ∷ ys)) o.1 xs rest o.3 in
    (o.0, o.1, i.0, o.2, subst (λ (r : List ℕ). Several P k o.1 (Ok (i.0, r))) (sym (rest_same xs (o.0 ∷ i.0) rest i.1 i.3)) i.2, value_same xs (o.0 ∷ i.0) rest i.1 i.3)

pub several_many : {X : Type 0} (P : Part X) (k : ℕ) (bs : List ℕ) (xs : List X) (rest : List ℕ) → Several P k bs (Ok (xs, rest)) → length xs ≡ k
several_many P zero bs xs rest h = ap length (value_same xs [] rest bs h)
several_many P (suc k) bs xs rest h = let o = several_open P k bs xs rest h in ap length o.5 ∙ ap suc (several_many P k o.1 o.2 rest o.4)

pub several_more : {X : Type 0} (P : Part X) (k : ℕ) (bs : List ℕ) (xs : List X) (rest : List ℕ) (x : X) (next : List ℕ) → Several P k bs (Ok (xs, rest)) → P rest (Ok (x, next)) → Several P (suc k) bs (Ok (xs ++ x ∷ [], next))
several_more P zero bs xs rest x next h p =
    let er = rest_same xs [] rest bs h in
    let ex = value_same xs [] rest bs h in
    goes x next (subst (λ (r : List ℕ). P r (Ok (x, next))) er p) (goes [] next refl (ap (λ ys. Ok (ys ++ x ∷ [], next)) ex))
several_more P (suc k) bs xs rest x next h p =
    let o = several_open P k bs xs rest h in
    goes o.0 o.1 o.3 (goes (o.2 ++ x ∷ []) next (several_more P k o.1 o.2 rest x next o.4 p) (ap (λ ys. Ok (ys ++ x ∷ [], next)) o.5))

pub several_next : {X : Type 0} (P : Part X) (k : ℕ) (bs : List ℕ) (xs : List X) (rest : List ℕ) (x : X) (next : List ℕ) → Several P k bs (Ok (xs, rest)) → P rest (Ok (x, next)) → Several P (k + 1) bs (Ok (xs ++ x ∷ [], next))
several_next P k bs xs rest x next h p = subst (λ (n : ℕ). Several P n bs (Ok (xs ++ x ∷ [], next))) (sym (add-one k)) (several_more P k bs xs rest x next h p)

pub several_stops : {X : Type 0} (P : Part X) (n k : ℕ) (bs : List ℕ) (xs : List X) (rest : List ℕ) (f : Fault) → k < n → Several P k bs (Ok (xs, rest)) → P rest (Err f) → Several P n bs (Err f)
several_stops P zero k bs xs rest f l h p = absurd (omega arith)
several_stops P (suc n) zero bs xs rest f l h p = stops f (subst (λ (r : List ℕ). P r (Err f)) (rest_same xs [] rest bs h) p) refl
several_stops P (suc n) (suc k) bs xs rest f l h p =
    let o = several_open P k bs xs rest h in
    goes o.0 o.1 o.3 (stops f (several_stops P n k o.1 o.2 rest f (omega arith) o.4 p) refl)

-- few enough items or states break a rule only by themselves
pub breaks_lowest : (ps : List ℕ) (i : ℕ) → length ps ≤ 64 → BreaksAt ps i → Lowest (Rooted ps) (length ps) i
breaks_lowest ps i h (unrooted l b) = b
breaks_lowest ps i h (too_many_items l e) = absurd (omega arith)

pub strays_lowest : (xs : List State) (s : ℕ) → length xs ≤ 32 → StraysAt xs s → Lowest (Placed xs) (length xs) s
strays_lowest xs s h (stray l b) = b
strays_lowest xs s h (too_many_states l e) = absurd (omega arith)

pub parents_broken : (n end : ℕ) (bs ps : List ℕ) (i : ℕ) → n ≤ length bs → ps ≡ take n bs → length ps ≡ n → Lowest (Rooted ps) (length ps) i → Parents n end bs (Err (Tree (end - length bs + i)))
parents_broken n end bs ps i l e m h =
    broken i l (subst (λ (k : ℕ). Lowest (Rooted (take n bs)) k i) m (subst (λ (xs : List ℕ). Lowest (Rooted xs) (length ps) i) e h)) refl

pub parents_tree : (n end : ℕ) (bs ps rest : List ℕ) → n ≤ length bs → ps ≡ take n bs → rest ≡ drop n bs → length ps ≡ n → ((i : ℕ) → i < length ps → Rooted ps i) → Parents n end bs (Ok (ps, rest))
parents_tree n end bs ps rest l e d m h =
    tree l (λ i b. subst (λ (xs : List ℕ). Rooted xs i) e (h i (omega arith))) (ap (λ (xs : List ℕ). Ok (xs, rest)) e ∙ ap (λ (xs : List ℕ). Ok (take n bs, xs)) d)
