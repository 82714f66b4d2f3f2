-- The parts of a plan are what the definitions say of its job type.
use Rattle.std.proofs.Common.{◌≡◌, ℕ, ◌<◌, ◌≤◌, ◌⊎◌, true, List, [], length, get_or, Decides, sym, refl, ap, ◌∙◌, subst, inl, inr, arith}
use Rattle.std.proofs.lemmas.Bool.{cases_eq}
use Rattle.model.specs.Workload as model
use Rattle.model.specs.Workload.{Workload, Above, self, over, Way, stay, onward, WellFormed, Unreachable, Unlockable, Named, Common, LocalRoot, Local, LocalChild, LocalLeaf}
use Rattle.model.proofs.Tree.{above_chain, above_depth, above_down, above_item, above_same, above_trans, depth, depth_up, first_named, local_item, local_root, named_item, root_item, root_one}
use Rattle.model.proofs.Ways.{way_state}
use Rattle.itemset.specs.declared.ItemSet.{ItemSet}
use Rattle.itemset.specs.Members.{holds, nothing}
use Rattle.rules.specs.declared.naming.Naming.{Naming}
use Rattle.rules.specs.declared.plan.Plan.{Plan}
use Rattle.rules.specs.declared.state.State.{State}
use Rattle.rules.specs.Plans.{HasType, Planned}
use Rattle.rules.specs.Reach.{Converse, Joined, Reaches, here, step}
use Rattle.rules.specs.Rules.{Arc, Parent, nowhere}
use Rattle.rules.specs.Sets.{ChildIn, Deepest, Exactly, LeftBehind, NamingOf, NamesAlong, item_at}
use Rattle.rules.specs.View.{state_at, workload_of}
use Rattle.rules.proofs.Formed.{top_marked}
use Rattle.rules.proofs.Gathering.{reaches_map}
use Rattle.rules.proofs.Rows.{turned}
use Rattle.rules.proofs.Matching.{above_reaches, arc_in, arc_out, not_top, reaches_above, reaches_way, way_reaches}

-- a way to a state begins in a state
pub from_state : {W : Workload} {t r m : ℕ} → Way W t r m → m < W.states t → r < W.states t
from_state (stay x) j = j
from_state (onward x y z e w) j = e.0

-- the rows of the tree, and what the states name over them
pub record Rooting (parents : List ℕ) (states : List State) (up : List ItemSet) (n : Naming) : Type 0 where
  pub few : length parents ≤ 64
  pub above : (i : ℕ) → i < 64 → Exactly (get_or up i nothing) (Reaches (Parent parents) i)
  pub names : NamingOf parents up states n

-- states that name items below 64 name such items along ways too
pub named_along : {E F : ℕ → ℕ → Type 0} (states : List State) → ((s : ℕ) → s < length states → item_at states s < 64)
    → ((a b : ℕ) → E a b → F a b) → ((a b : ℕ) → F a b → E a b)
    → (s : ℕ) (x : ItemSet) → Exactly x (λ d. (d < 64) × NamesAlong E states s d) → Exactly x (NamesAlong F states s)
named_along states items on back s x h d = (
  λ e. let q = ((h d).0 e).1 in (q.0, reaches_map on q.1, q.2),
  λ q. (h d).1 (let i = items q.0 q.2.0 in omega (arith, q.2.1), (q.0, reaches_map back q.1, q.2)),
)

-- what a row lacks of a set
pub lacking_of
    : {P Q : ℕ → Type 0} (all x : ItemSet) → Exactly all P → Exactly x (λ d. (holds all d ≡ true) × Q d) → Exactly x (λ d. P d × Q d)
lacking_of all x a h d = (λ e. let q = (h d).0 e in ((a d).0 q.0, q.1), λ q. (h d).1 ((a d).1 q.0, q.1))

-- the rows of the states: those before each, and the items that are named ahead and behind
pub record Going (states : List State) (arcs ahead behind : List ItemSet) : Type 0 where
  pub short : length states ≤ 32
  pub arcs_are : (s m : ℕ) → Decides (holds (get_or arcs s nothing) m) (Arc states s m)
  pub ahead_are : (s : ℕ) → s < 32 → Exactly (get_or ahead s nothing) (NamesAlong (Arc states) states s)
  pub behind_are : (m : ℕ) → m < 32 → Exactly (get_or behind m nothing) (NamesAlong (Converse (Arc states)) states m)

-- d is named or lies above what is
abbrev pub Over : Naming → ℕ → Type 0
Over n d = (holds n.named d ≡ true) ⊎ (holds n.above d ≡ true)

-- how the parts of a plan were made
pub record Made (parents : List ℕ) (states : List State) (p : Plan) : Type 0 where
  pub up : List ItemSet
  pub naming : Naming
  pub rooting : Rooting parents states up naming
  pub deepest : Deepest up naming.common p.root
  pub local_is : Exactly p.local (λ d. (d ≡ p.root) ⊎ (Over naming d × (holds naming.common d ≡ true → ⊥)))
  pub children_are : (d : ℕ) → d < 64 → Exactly (get_or p.children d nothing) (ChildIn parents p.local d)
  pub leaves_are : Exactly p.leaves (λ d. (holds naming.named d ≡ true) × (holds naming.above d ≡ true → ⊥))
  pub named_is : p.named ≡ naming.named
  pub arcs : List ItemSet
  pub ahead : List ItemSet
  pub behind : List ItemSet
  pub going : Going states arcs ahead behind
  pub unreachable_are : (s : ℕ) → s < 32 → Exactly (get_or p.unreachable s nothing) (λ d. (d < length parents) × (Joined ahead s d → ⊥))
  pub unlockable_are : (s : ℕ) → s < 32 → Exactly (get_or p.unlockable s nothing) (LeftBehind arcs p.unreachable behind s)

module _ (parents : List ℕ) (codes : ℕ) (types : List (List State)) (t : ℕ) (F : WellFormed (workload_of parents codes types)) (ht : t < length types)
    (four : (s : ℕ) → s < length (get_or types t []) → length (state_at types t s).arcs ≡ 4) where
  abbrev W : Workload
  W = workload_of parents codes types

  -- a parent lies above its child
  right_above : (c d : ℕ) → ¬ (c ≡ W.top) → W.up c ≡ d → Above W d c
  right_above c d k e = over c k (subst (λ (x : ℕ). Above W d x) (sym e) self)

  module _ (up : List ItemSet) (n : Naming) (R : Rooting parents (get_or types t []) up n) where
    N : NamingOf parents up (get_or types t []) n
    N = R.names

    Up : (a d : ℕ) → d < length parents → Decides (holds (get_or up d nothing) a) (Above W a d)
    Up a d h =
        let u = R.above d (omega (arith, R.few)) a in (
          λ e. reaches_above parents codes types R.few (top_marked parents F.top_item) (u.0 e),
          λ g. u.1 (above_reaches parents codes types F.up_item h g),
        )

    -- the row of the item that the state s names
    Row : (a s : ℕ) → s < length (get_or types t []) → Decides (holds (get_or up (item_at (get_or types t []) s) nothing) a) (Above W a (state_at types t s).item)
    Row a s h = Up a (state_at types t s).item (F.names_item t s ht h)

    common_to : (a : ℕ) → holds n.common a ≡ true → Common W t a
    common_to a h d i = subst (λ (x : ℕ). Above W a x) i.2 ((Row a i.0 i.1).0 (((N.common a).0 h).1 i.0 i.1))

    common_item : (a : ℕ) → Common W t a → a < length parents
    common_item a f =
        let z = F.first_state t ht in
        above_item W F (f (state_at types t 0).item (0, z, refl)) (F.names_item t 0 ht z)

    common_from : (a : ℕ) → Common W t a → holds n.common a ≡ true
    common_from a f =
        let i = common_item a f in
        (N.common a).1 (omega (arith, R.few), λ s h. (Row a s h).1 (f (state_at types t s).item (s, h, refl)))

    is_root : (r : ℕ) → Deepest up n.common r → LocalRoot W t r
    is_root r h =
        let c = common_to r h.inside in
        record { common = c; deepest = λ a f. (Up a r (common_item r c)).0 (h.below_all a (common_from a f)) }

    -- there is one
    pub has_deepest : ((a : ℕ) → a < 64 → Deepest up n.common a → ⊥) → ⊥
    has_deepest never =
        let r = local_root W F t ht in
        let h : r.0 < length parents = root_item W F t ht r.1 in
        never r.0 (omega (arith, R.few))
        (record { inside = common_from r.0 r.1.common; below_all = λ b e. (Up b r.0 h).1 (r.1.deepest b (common_to b e)) })

    -- what is named, or lies above what is, is a named item or lies above one
    over_named : (d : ℕ) → Over n d → (m : ℕ) × Named W t m × Above W d m
    over_named d (inl h) = (d, (N.named d).0 h, self)
    over_named d (inr h) = let q = (N.above d).0 h in (item_at (get_or types t []) q.0, (q.0, q.1, refl), (Row d q.0 q.1).0 q.3)

    -- what lies above a named item, and is another, is in the set of such
    above_from : (d m : ℕ) → Named W t m → Above W d m → ¬ (m ≡ d) → holds n.above d ≡ true
    above_from d m i a f = (N.above d).1 (i.0, i.1, λ e. f (sym i.2 ∙ e), (Row d i.0 i.1).1 (subst (λ (x : ℕ). Above W d x) (sym i.2) a))

    over_from : (d m : ℕ) → Named W t m → Above W d m → Over n d
    over_from d m i a = elim (cases_eq m d) [
      | inl e ↦ inl ((N.named d).1 (subst (Named W t) e i))
      | inr f ↦ inr (above_from d m i a f)
    ]

    module _ (root : ℕ) (the_root : LocalRoot W t root) where
      -- an item between the root and a named one
      between : (d m : ℕ) → Named W t m → Above W root d → Above W d m → Local W t d
      between d m i b a = record { root = root; is_root = the_root; below_root = b; named = m; is_named = i; above_named = a }

      root_in : Local W t root
      root_in = let i = first_named W F t ht in between root (W.item t 0) i self (the_root.common (W.item t 0) i)

      -- a way up meets the root, and what it passes after that is common
      passed : (d m : ℕ) → Named W t m → Above W d m → (holds n.common d ≡ true → ⊥) → Local W t d
      passed d m i a low = elim (above_chain (the_root.common m i) a) [
        | inl b ↦ between d m i b a
        | inr b ↦ absurd (low (common_from d (λ m k. above_trans b (the_root.common m k))))
      ]

      below_the_root : (d : ℕ) → Local W t d → Above W root d
      below_the_root d h = subst (λ (x : ℕ). Above W x d) (root_one W F t ht h.is_root the_root) h.below_root

      is_local : (local : ItemSet) → Exactly local (λ d. (d ≡ root) ⊎ (Over n d × (holds n.common d ≡ true → ⊥))) → Exactly local (Local W t)
      is_local local locals d = (to, from)
        where
          to : holds local d ≡ true → Local W t d
          to h = elim ((locals d).0 h) [
            | inl e ↦ subst (Local W t) (sym e) root_in
            | inr q ↦ (let o = over_named d q.0 in passed d o.0 o.1 o.2 q.1)
          ]

          from : Local W t d → holds local d ≡ true
          from h = (locals d).1 (elim (cases_eq d root) [
            | inl e ↦ inl e
            | inr ne ↦ inr (
              over_from d h.named h.is_named h.above_named,
              λ e. ne (above_same W F (the_root.deepest d (common_to d e)) (below_the_root d h) (root_item W F t ht the_root)),
            )
          ])

      -- an item above another that is named has a child on the way down to it
      has_child : (d m : ℕ) → Local W t d → Named W t m → Above W d m → ¬ (d ≡ m) → (c : ℕ) × LocalChild W t d c
      has_child d m h i a f =
          let c = above_down a f in
          let b = above_trans (below_the_root d h) (right_above c.0 d c.3 c.1) in
          (c.0, record { inside = between c.0 m i b c.2; parent = h; not_top = c.3; right_below = c.1 })

      -- a child lies above a named item, which is not its parent
      above_child : (d c : ℕ) → LocalChild W t d c → holds n.above d ≡ true
      above_child d c k =
          let m = k.inside.named in
          let i = k.inside.is_named in
          let a = k.inside.above_named in
          let low = depth_up W F c (local_item W F t ht k.inside) k.not_top in
          above_from d m i (above_trans (right_above c d k.not_top k.right_below) a)
          (λ e. let j = above_depth W F a (named_item W F t ht i) in let p = k.right_below in absurd (omega (arith, ap (depth W F) e, ap (depth W F) p)))

      is_leaf : (leaves : ItemSet) → Exactly leaves (λ d. (holds n.named d ≡ true) × (holds n.above d ≡ true → ⊥)) → Exactly leaves (LocalLeaf W t)
      is_leaf leaves l d = (to, from)
        where
          to : holds leaves d ≡ true → LocalLeaf W t d
          to e =
              let q = (l d).0 e in
              let i = (N.named d).0 q.0 in
              record { inside = between d d i (the_root.common d i) self; childless = λ c k. q.1 (above_child d c k) }

          from : LocalLeaf W t d → holds leaves d ≡ true
          from h =
              let lowest = λ (m : ℕ) (i : Named W t m) (a : Above W d m) (f : ¬ (d ≡ m)). let c = has_child d m h.inside i a f in h.childless c.0 c.1 in
              (l d).1 (
                elim (cases_eq d h.inside.named) [
                  | inl e ↦ (N.named d).1 (subst (Named W t) (sym e) h.inside.is_named)
                  | inr f ↦ absurd (lowest h.inside.named h.inside.is_named h.inside.above_named f)
                ],
                λ e. let q = (N.above d).0 e in lowest (item_at (get_or types t []) q.0) (q.0, q.1, refl) ((Row d q.0 q.1).0 q.3) (λ p. q.2 (sym p)),
              )

  module _ (few : length parents ≤ 64) (local : ItemSet) (locals : Exactly local (Local W t)) (children : List ItemSet)
      (all : (d : ℕ) → d < 64 → Exactly (get_or children d nothing) (ChildIn parents local d)) where
    is_child : (d : ℕ) → d < length parents → Exactly (get_or children d nothing) (LocalChild W t d)
    is_child d h c =
        let k : d < 64 = omega arith in (
          λ e. let q = (all d k c).0 e in
              record {
                inside = (locals c).0 q.below;
                parent = (locals d).0 q.above;
                not_top = not_top parents codes types few (top_marked parents F.top_item) c d q.parent h;
                right_below = q.parent;
              },
          λ q. (all d k c).1
              (record {
                above = (locals d).1 q.parent;
                item = local_item W F t ht q.inside;
                parent = q.right_below;
                below = (locals c).1 q.inside;
              }),
        )

  module _ (arcs ahead behind : List ItemSet) (G : Going (get_or types t []) arcs ahead behind) where
    leads : (s m : ℕ) → model.Arc W t s m → m < length (get_or types t [])
    leads s m a = F.leads t s m ht a

    Before : (s m : ℕ) → Decides (holds (get_or arcs m nothing) s) (model.Arc W t m s)
    Before s m =
        let u = G.arcs_are m s in (
          λ e. arc_out parents codes types t four m s (u.0 e),
          λ a. u.1 (arc_in parents codes types t four leads m s a),
        )

    goes : {a b : ℕ} → Way W t a b → Reaches (Arc (get_or types t [])) a b
    goes w = way_reaches parents codes types t four leads w

    -- a state behind s that names another item than s is, or is behind, one that has an arc to s
    behind_one_before
        : {s r : ℕ} → Reaches (Converse (Arc (get_or types t []))) s r → ¬ ((state_at types t s).item ≡ (state_at types t r).item)
        → (m : ℕ) × model.Arc W t m s × Way W t r m
    behind_one_before here n = absurd (n refl)
    behind_one_before {s} (step {m = m} e p) n = (m, arc_out parents codes types t four m s e, reaches_way parents codes types t four (turned p))

    module _ (unreachable : List ItemSet)
        (rows : (s : ℕ) → s < 32 → Exactly (get_or unreachable s nothing) (λ d. (d < length parents) × (Joined ahead s d → ⊥))) where
      is_unreachable : (s : ℕ) → s < length (get_or types t []) → Exactly (get_or unreachable s nothing) (λ d. (d < length parents) × Unreachable W t s d)
      is_unreachable s h d =
          let k : s < 32 = omega (arith, G.short) in (
            λ e. let q = (rows s k d).0 e in
                (q.0, λ r w i. q.1 ((G.ahead_are s k d).1 (r, goes w, (way_state W t leads w h, i)))),
            λ q. (rows s k d).1 (q.0, λ e. let a = (G.ahead_are s k d).0 e in q.1 a.0 (reaches_way parents codes types t four a.1) a.2.1),
          )

      is_unlockable : (unlockable : List ItemSet) → ((s : ℕ) → s < 32 → Exactly (get_or unlockable s nothing) (LeftBehind arcs unreachable behind s))
          → (s : ℕ) → s < length (get_or types t []) → Exactly (get_or unlockable s nothing) (Unlockable W t s)
      is_unlockable unlockable left s h d = (to, from)
        where
          k : s < 32
          k = omega (arith, G.short)

          to : holds (get_or unlockable s nothing) d ≡ true → Unlockable W t s d
          to e =
              let q = (left s k d).0 e in
              let u = (is_unreachable s h d).0 q.here in
              let b = (G.behind_are s k d).0 q.named_behind in
              let m = behind_one_before b.1 (λ i. u.1 s (stay s) (i ∙ b.2.1)) in
              record {
                here = u.1;
                not_before = λ m a v. q.not_before m ((Before s m).1 a) ((is_unreachable m a.0 d).1 (u.0, v));
                named_before = (m.0, b.0, m.1, m.2, b.2.1);
              }

          from : Unlockable W t s d → holds (get_or unlockable s nothing) d ≡ true
          from u =
              let n = u.named_before in
              let r = from_state n.3 n.2.0 in
              let i : d < length parents = subst (λ (x : ℕ). x < length parents) n.4 (F.names_item t n.1 ht r) in
              (left s k d).1
              (record {
                here = (is_unreachable s h d).1 (i, u.here);
                not_before = λ m j v. let a = (Before s m).0 j in u.not_before m a ((is_unreachable m a.0 d).0 v).1;
                named_behind = (G.behind_are s k d).1 (n.1, step (arc_in parents codes types t four leads n.0 s n.2) (turned (goes n.3)), (r, n.4));
              })

  pub planned : (p : Plan) → Made parents (get_or types t []) p → Planned W t p
  planned p M =
      let R = M.rooting in
      let G = M.going in
      let root = is_root M.up M.naming R p.root M.deepest in
      let locals = is_local M.up M.naming R p.root root p.local M.local_is in
      let are = is_unreachable M.arcs M.ahead M.behind G p.unreachable M.unreachable_are in
      record {
        root = root;
        local = locals;
        named = subst (λ (x : ItemSet). Exactly x (Named W t)) (sym M.named_is) R.names.named;
        leaves = is_leaf M.up M.naming R p.root root p.leaves M.leaves_are;
        children = is_child R.few p.local locals p.children M.children_are;
        unreachable = are;
        unlockable = is_unlockable M.arcs M.ahead M.behind G p.unreachable M.unreachable_are p.unlockable M.unlockable_are;
      }

module _ (parents : List ℕ) (states : List State) (codes t : ℕ) (types : List (List State)) (H : HasType parents codes types t states) where
  its_four : (s : ℕ) → s < length (get_or types t []) → length (state_at types t s).arcs ≡ 4
  its_four = subst (λ (zs : List State). (s : ℕ) → s < length zs → length (get_or zs s nowhere).arcs ≡ 4) (sym H.its_states) H.four

  -- the plan of a type with these states in a workload over this tree, where it was made of states that are the same
  pub planned_for : (xs : List State) (p : Plan) → xs ≡ states → Made parents xs p → Planned (workload_of parents codes types) t p
  planned_for xs p e M = planned parents codes types t H.formed H.is_type its_four p (subst (λ (zs : List State). Made parents zs p) (e ∙ sym H.its_states) M)

  -- and where no item is deepest there is no such workload
  pub none_for : (up : List ItemSet) (n : Naming) → Rooting parents states up n → ((a : ℕ) → a < 64 → Deepest up n.common a → ⊥) → ⊥
  none_for up n R = has_deepest parents codes types t H.formed H.is_type its_four up n (subst (λ (zs : List State). Rooting parents zs up n) (sym H.its_states) R)
