-- What sets and rows of sets say of the items and states of a job type.
use Rattle.std.specs.Prelude.{◌≡◌, ◌≢◌, ℕ, ◌<◌, true, List, length, Decides, slice_index_or}
use Rattle.itemset.specs.declared.ItemSet.{ItemSet}
use Rattle.itemset.specs.Members.{holds, nothing}
use Rattle.rules.specs.declared.naming.Naming.{Naming}
use Rattle.rules.specs.declared.state.State.{State}
use Rattle.rules.specs.Reach.{Joined, Reaches}
use Rattle.rules.specs.Rules.{nowhere}

-- the set holds the numbers of which P holds, and no other
abbrev pub Exactly : ItemSet → (ℕ → Type 0) → Type 0
Exactly x P = (d : ℕ) → Decides (holds x d) (P d)

-- each of the first n rows holds the numbers to which R relates it, and no other
abbrev pub Rows : ℕ → List ItemSet → (ℕ → ℕ → Type 0) → Type 0
Rows n rows R = (s : ℕ) → s < n → Exactly (slice_index_or rows s nothing) (R s)

-- the item that the state s names
abbrev pub item_at : List State → ℕ → ℕ
item_at states s = (slice_index_or states s nowhere).item

-- the state s names d
abbrev pub Names : List State → ℕ → ℕ → Type 0
Names states s d = (s < length states) × (item_at states s ≡ d)

-- a state to which a way along the relation leads from s names d
abbrev pub NamesAlong : (ℕ → ℕ → Type 0) → List State → ℕ → ℕ → Type 0
NamesAlong E states s d = (r : ℕ) × Reaches E s r × Names states r d

-- n is what the states name, each an item of the tree, where the row of an item has itself and the items above it
pub record NamingOf (parents : List ℕ) (rows : List ItemSet) (states : List State) (n : Naming) : Type 0 where
  pub in_tree : (s : ℕ) → s < length states → item_at states s < length parents
  pub named : Exactly n.named (λ d. (s : ℕ) × (s < length states) × (item_at states s ≡ d))
  -- a lies above the item of some state
  pub above : Exactly n.above (λ a. (s : ℕ) × (s < length states) × (item_at states s ≢ a) × Joined rows (item_at states s) a)
  -- a is, or lies above, the item of each state
  pub common : Exactly n.common (λ a. (a < 64) × ((s : ℕ) → s < length states → Joined rows (item_at states s) a))

-- a is in the set, and its row has all that is in the set
pub record Deepest (rows : List ItemSet) (set : ItemSet) (a : ℕ) : Type 0 where
  pub inside : holds set a ≡ true
  pub below_all : (b : ℕ) → holds set b ≡ true → Joined rows a b

-- c is an item, and d its parent
abbrev pub ChildOf : List ℕ → ℕ → ℕ → Type 0
ChildOf parents d c = (c < length parents) × (slice_index_or parents c 0 ≡ d)

-- d and c are in the set, and d is the parent of c
pub record ChildIn (parents : List ℕ) (set : ItemSet) (d c : ℕ) : Type 0 where
  pub above : holds set d ≡ true
  pub item : c < length parents
  pub parent : slice_index_or parents c 0 ≡ d
  pub below : holds set c ≡ true

-- d is unreachable from s, but from no state before s, and named at s or behind it
pub record LeftBehind (arcs unreachable behind : List ItemSet) (s d : ℕ) : Type 0 where
  pub here : Joined unreachable s d
  pub not_before : (m : ℕ) → Joined arcs m s → Joined unreachable m d → ⊥
  pub named_behind : Joined behind s d
