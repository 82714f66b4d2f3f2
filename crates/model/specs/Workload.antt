-- Workloads: a lock tree of items, and types of jobs that go from state to state.
-- Items, types, states and codes are numbers.
use Rattle.std.specs.Prelude.{◌≡◌, List, [], ℕ, pred, min, ◌<◌, ℤ, pos, negsuc, length}
use Rattle.std.proofs.Math.Option.{some}
use Rattle.std.proofs.Math.ListN.{get_elem?}
use Rattle.locking.specs.Lists.{Mem}

pub record Workload : Type 0 where
  -- the items are the numbers below this one
  pub items : ℕ
  -- the codes that the states may name are the numbers below this one
  pub codes : ℕ
  -- the root of the lock tree, the one item that has no parent
  pub top : ℕ
  -- the parent of any other item
  pub up : ℕ → ℕ
  -- the types are the numbers below this one
  pub types : ℕ
  -- the states of a type are the numbers below this one; it begins in state 0
  pub states : ℕ → ℕ
  -- what a state of a type names, and the states to which it has arcs; it is terminal if it has none
  pub item : ℕ → ℕ → ℕ
  pub code : ℕ → ℕ → ℕ
  pub operand : ℕ → ℕ → ℤ
  pub arcs : ℕ → ℕ → List ℕ

-- the item a is d, or lies above d in the lock tree
pub data Above (W : Workload) (a : ℕ) : ℕ → Type 0 where
  self : Above W a a
  over : (d : ℕ) → ¬ (d ≡ W.top) → Above W a (W.up d) → Above W a d

-- the state m of the type t has an arc to s
abbrev pub Arc : Workload → ℕ → ℕ → ℕ → Type 0
Arc W t m s = (m < W.states t) × Mem s (W.arcs t m)

-- a way along arcs, of any length, leads from one state to another
pub data Way (W : Workload) (t : ℕ) : ℕ → ℕ → Type 0 where
  stay : (s : ℕ) → Way W t s s
  onward : (s m r : ℕ) → Arc W t s m → Way W t m r → Way W t s r

abbrev pub Terminal : Workload → ℕ → ℕ → Type 0
Terminal W t s = W.arcs t s ≡ []

-- The tree rules and the state rules.
pub record WellFormed (W : Workload) : Type 0 where
  pub top_item : W.top < W.items
  pub up_item : (d : ℕ) → d < W.items → ¬ (d ≡ W.top) → W.up d < W.items
  -- every way up comes to the top
  pub tree : (d : ℕ) → d < W.items → Above W W.top d
  -- a type has the state in which it begins
  pub first_state : (t : ℕ) → t < W.types → 0 < W.states t
  -- a state names an item and a code of the workload, and its arcs lead to states of its type
  pub names_item : (t s : ℕ) → t < W.types → s < W.states t → W.item t s < W.items
  pub names_code : (t s : ℕ) → t < W.types → s < W.states t → W.code t s < W.codes
  pub leads : (t m s : ℕ) → t < W.types → Arc W t m s → s < W.states t
  -- every state is reached from the first, and reaches a terminal one
  pub reached : (t s : ℕ) → t < W.types → s < W.states t → Way W t 0 s
  pub ending : (t s : ℕ) → t < W.types → s < W.states t → (r : ℕ) × Way W t s r × Terminal W t r

-- The unreachable set of the state s: the items d that no state on any way from s names, s itself counted.
abbrev pub Unreachable : Workload → ℕ → ℕ → ℕ → Type 0
Unreachable W t s d = (r : ℕ) → Way W t s r → ¬ (W.item t r ≡ d)

-- The unlockable set of the state s. A job that comes to s has just left its items behind for good.
pub record Unlockable (W : Workload) (t s d : ℕ) : Type 0 where
  -- d is unreachable from s
  pub here : Unreachable W t s d
  -- but from no state that has an arc to s
  pub not_before : (m : ℕ) → Arc W t m s → ¬ Unreachable W t m d
  -- and such a state m names d or is reached from a state r that names d
  pub named_before : (m r : ℕ) × Arc W t m s × Way W t r m × (W.item t r ≡ d)

-- a state of the type t names d
abbrev pub Named : Workload → ℕ → ℕ → Type 0
Named W t d = (s : ℕ) × (s < W.states t) × (W.item t s ≡ d)

-- a is, or lies above, every item that the type names
abbrev pub Common : Workload → ℕ → ℕ → Type 0
Common W t a = (d : ℕ) → Named W t d → Above W a d

-- the deepest such item: every other one lies above it
pub record LocalRoot (W : Workload) (t r : ℕ) : Type 0 where
  pub common : Common W t r
  pub deepest : (a : ℕ) → Common W t a → Above W a r

-- The local lock tree of a type: the items on the ways down from its local root to the items that it names.
pub record Local (W : Workload) (t d : ℕ) : Type 0 where
  pub root : ℕ
  pub is_root : LocalRoot W t root
  pub below_root : Above W root d
  pub named : ℕ
  pub is_named : Named W t named
  pub above_named : Above W d named

-- c is right below d in the local lock tree
pub record LocalChild (W : Workload) (t d c : ℕ) : Type 0 where
  pub inside : Local W t c
  pub parent : Local W t d
  pub not_top : ¬ (c ≡ W.top)
  pub right_below : W.up c ≡ d

pub record LocalLeaf (W : Workload) (t d : ℕ) : Type 0 where
  pub inside : Local W t d
  pub childless : (c : ℕ) → ¬ LocalChild W t d c

-- which of k arcs is taken, counted from 0: the given number, raised to 0 if below and cut to k − 1 if above
abbrev pub choice : ℤ → ℕ → ℕ
choice (pos n) k = min n (pred k)
choice (negsuc n) k = 0

-- a job that leaves the state s with the number p in its register takes the arc to r
abbrev pub Takes : Workload → ℕ → ℕ → ℤ → ℕ → Type 0
Takes W t s p r = get_elem? (W.arcs t s) (choice p (length (W.arcs t s))) ≡ some r
