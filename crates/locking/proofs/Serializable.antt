-- The log of a run of tree locking agrees with the serial order of its jobs.
use mathlib.Core.Path.{◌≡◌, subst}
use mathlib.Core.List.{List}
use mathlib.Core.Logic.{◌⊎◌, inl, inr}
use Prim.Native.Nat.{ℕ, ◌≤◌, ◌<◌}
use native.Mathlib.Omega.{arith}
use native.Mathlib.Decide.{dec_lt}
use Rattle.locking.specs.Lists.{Mem, Before}
use Rattle.locking.specs.Tree.{Run, Has, TreeLocked, JobOrder}
use Rattle.locking.specs.Serial.{Entry, Agreeing}
use Rattle.locking.specs.Serializable.{Logged, TreeSerial}
use Rattle.locking.proofs.Lists.{before_left, before_right, before_either}
use Rattle.locking.proofs.Tree.{tree_order}
use Rattle.locking.proofs.Serial.{serial_log, serial_effect}

module _ {P : Type 0} (N : ℕ) (R : Run) (log : List (Entry P)) (T : TreeLocked N R) (L : Logged N R log) where
  stamped : (e f : Entry P) → Mem e log → Mem f log → e.stamp ≡ f.stamp → e ≡ f
  stamped e f m n q =
      elim (before_either e f log m n) [
        | inl r ↦ r
        | inr (inl b) ↦ absurd (let h : e.stamp < f.stamp = L.rising e f b in omega arith)
        | inr (inr b) ↦ absurd (let h : f.stamp < e.stamp = L.rising f e b in omega arith)
      ]

  -- two jobs that meet at an item locked it in the order in which they stand in the log
  met
      : (e f : Entry P) → Before e f log → e.item ≡ f.item
      → (e.job ≡ f.job) ⊎ (Has R e.job f.item × (R.at e.job f.item < R.at f.job f.item))
  met e f b q =
      elim (dec_lt (R.at e.job f.item) (R.at f.job f.item)) [
        | yes y ↦ inr (has_e, y)
        | no n ↦ elim (dec_lt (R.at f.job f.item) (R.at e.job f.item)) [
          | yes y ↦ absurd (late y)
          | no k ↦ inl (T.apart e.job f.job f.item (L.known e me) (L.known f mf) has_e (L.locked f mf) (omega arith))
        ]
      ]
    where
      me : Mem e log
      me = before_left e f log b

      mf : Mem f log
      mf = before_right e f log b

      has_e : Has R e.job f.item
      has_e = subst (λ (d : ℕ). Has R e.job d) q (L.locked e me)

      late : R.at f.job f.item < R.at e.job f.item → ⊥
      late y =
          let h : f.stamp < R.at e.job f.item = L.released f mf e.job (L.known e me) has_e y in
          let g : R.at e.job f.item ≤ e.stamp = subst (λ (d : ℕ). R.at e.job d ≤ e.stamp) q (L.within e me) in
          let r : e.stamp < f.stamp = L.rising e f b in
          omega arith

  agreeing : (ord : List ℕ) → JobOrder N R ord → Agreeing ord log
  agreeing ord o =
      record {
        distinct = o.distinct;
        known = λ e m. o.whole e.job (L.known e m);
        stamped = stamped;
        agrees = λ e f b q. elim (met e f b q) [
          | inl r ↦ inl r
          | inr h ↦
              inr
              (o.agrees f.item e.job f.job (L.known e (before_left e f log b)) (L.known f (before_right e f log b))
              h.0 (L.locked f (before_right e f log b)) h.1)
        ];
      }

pub tree_serial : (P V : Type 0) → TreeSerial P V
tree_serial P V N R log T L =
    let o = tree_order N R T in
    let a = agreeing N R log T L o.0 o.1 in (
      o.0,
      record {
        order = o.1;
        alike = serial_log P o.0 log a;
        effect = λ act s. serial_effect P V act s o.0 log a;
      },
    )
