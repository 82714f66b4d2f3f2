-- A small run that keeps all the rules, so that the theorems do not speak of nothing.
-- The items 0, 1, 2, .. stand one below the other. The job 0 has locked 0 and 1, and has released 0.
-- The job 1 has then locked 0, holds it, and waits for 1, which the job 0 holds.
use Rattle.std.specs.Prelude.{List, [], ◌∷◌, true, ℕ, pred, ◌+◌, ltb, eqb}
use Rattle.locking.specs.Tree.{Run}
use Rattle.locking.specs.Serial.{Entry}
use Rattle.locking.specs.Serializable.{Logged}
use Rattle.locking.specs.Progress.{Moment, Sound, BlockedBy}

abbrev pub sample_run : Run
sample_run =
    record { up = pred; depth = λ d. d; root = λ _. 0; has = λ j d. ltb (d + j) 2; at = λ j d. d + d + j }

abbrev pub sample : Moment
sample =
    record {
      run = sample_run;
      now = 10;
      holds = λ j d. eqb (d + j) 1;
      busy = λ _. true;
      waits = λ j. eqb j 1;
      wants = λ _. 1;
    }

-- the job j acts on the item d at the time s
abbrev pub sample_entry : ℕ → ℕ → ℕ → Entry ℕ
sample_entry s j d = record { stamp = s; job = j; item = d; operation = 7 }

-- the job 1 acts between two operations of the job 0
abbrev pub sample_log : List (Entry ℕ)
sample_log = sample_entry 0 0 0 ∷ sample_entry 1 1 0 ∷ sample_entry 2 0 1 ∷ []

pub record RulesKept : Type 0 where
  pub sound : Sound 2 sample
  pub logged : Logged 2 sample_run sample_log
  pub blocked : BlockedBy 2 sample 1 0
