-- The sample keeps the rules.
use mathlib.Core.Path.{◌≡◌, refl}
use mathlib.Core.Logic.{◌⊎◌, inl, inr}
use Prim.Native.Nat.{ℕ, zero, suc, pred, ◌<◌}
use native.Mathlib.Omega.{arith}
use Rattle.locking.specs.Tree.{Has, TreeLocked}
use Rattle.locking.specs.Serializable.{Logged}
use Rattle.locking.specs.Progress.{Sound}
use Rattle.locking.specs.Sample.{sample_run, sample, sample_log, RulesKept}

locked : TreeLocked 2 sample_run
locked =
    record {
      apart = λ j k d hj hk a b e. omega arith;
      climbs = climbs;
      follows = λ j k d hj hk a b c e f g h. grind arith;
    }
  where
    climbs : (j d : ℕ) → j < 2 → Has sample_run j d → (d ≡ 0) ⊎ (Has sample_run j (pred d) × (pred d < d))
    climbs j zero hj h = inl refl
    climbs j (suc d) hj h = inr (grind arith, omega arith)

sound : Sound 2 sample
sound =
    record {
      locked = locked;
      past = λ j d hj h. grind arith;
      held = λ j d hj h. grind arith;
      open_still = λ j d hj h. refl;
      latest = λ j k d hj hk a b. grind arith;
      fresh = λ k hk w. grind arith;
      asked = λ k hk w. inr (grind arith, omega arith);
    }

logged : Logged 2 sample_run sample_log
logged =
    record {
      rising = λ e f b. grind arith;
      known = λ e m. grind arith;
      locked = λ e m. grind arith;
      within = λ e m. grind arith;
      released = λ e m k hk a h. grind arith;
    }

pub rules_kept : RulesKept
rules_kept =
    record {
      sound = sound;
      logged = logged;
      blocked = record { waiting = refl; other = omega arith; busy = refl; holding = refl };
    }
