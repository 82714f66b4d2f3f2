-- Small workloads, to try the definitions on.
use Rattle.std.specs.Prelude.{◌≡◌, List, [], ◌∷◌, ◌↔◌, ℕ, zero, suc, pos}
use Rattle.model.specs.Workload.{Workload, WellFormed, Unlockable}

-- one item, one code, and one type of one terminal state
abbrev pub start : Workload
start =
    record {
      items = 1;
      codes = 1;
      top = 0;
      up = λ d. 0;
      types = 1;
      states = λ t. 1;
      item = λ t s. 0;
      code = λ t s. 0;
      operand = λ t s. pos 0;
      arcs = λ t s. [];
    }

-- the first state leads to the second and the third, and the second to the third
abbrev pub fork_arcs : ℕ → List ℕ
fork_arcs zero = 1 ∷ 2 ∷ []
fork_arcs (suc zero) = 2 ∷ []
fork_arcs (suc (suc s)) = []

-- three items right below the top; the three states of the one type name them in turn
abbrev pub fork : Workload
fork =
    record {
      items = 4;
      codes = 1;
      top = 0;
      up = λ d. 0;
      types = 1;
      states = λ t. 3;
      item = λ t s. suc s;
      code = λ t s. 0;
      operand = λ t s. pos 0;
      arcs = λ t s. fork_arcs s;
    }

-- the item 3 stands right below 1, and the items 1 and 2 right below the top, 0
abbrev pub descent_up : ℕ → ℕ
descent_up zero = 0
descent_up (suc zero) = 0
descent_up (suc (suc zero)) = 0
descent_up (suc (suc (suc d))) = 1

-- the first state names the item 1, and the second the item below it
abbrev pub descent_item : ℕ → ℕ
descent_item zero = 1
descent_item (suc s) = 3

-- the first state has one arc, to the second
abbrev pub descent_arcs : ℕ → List ℕ
descent_arcs zero = 1 ∷ []
descent_arcs (suc s) = []

-- one type, which works on an item and then on one right below it
abbrev pub descent : Workload
descent =
    record {
      items = 4;
      codes = 1;
      top = 0;
      up = descent_up;
      types = 1;
      states = λ t. 2;
      item = λ t s. descent_item s;
      code = λ t s. 0;
      operand = λ t s. pos 0;
      arcs = λ t s. descent_arcs s;
    }

pub record ExamplesStand : Type 0 where
  -- all keep the rules
  pub start_formed : WellFormed start
  pub fork_formed : WellFormed fork
  pub descent_formed : WellFormed descent
  -- In the fork's last state the item 2 is unlockable and no other is:
  -- the item 1 cannot be reached from the second state either, which has an arc to the last.
  pub fork_last : (d : ℕ) → Unlockable fork 0 2 d ↔ (d ≡ 2)
  -- In the descent's second state the item 1 is unlockable and no other is, though the job needs an item below it.
  pub descent_second : (d : ℕ) → Unlockable descent 0 1 d ↔ (d ≡ 1)
