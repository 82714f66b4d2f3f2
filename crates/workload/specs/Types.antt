-- The states and the plans of job types as lists.
use Rattle.std.specs.Prelude.{List, [], ◌∷◌, ℤ, vec_items}
use Rattle.rules.specs.declared.plan.Plan.{Plan}
use Rattle.rules.specs.declared.state.State.{State}
use Rattle.workload.specs.declared.definition.JobType.{JobType}

-- the states of each type
abbrev pub all_states : List JobType → List (List State)
all_states [] = []
all_states (j ∷ all) = vec_items j.states ∷ all_states all

-- the plan of each type
abbrev pub all_plans : List JobType → List Plan
all_plans [] = []
all_plans (j ∷ all) = j.plan ∷ all_plans all

-- a terminal state that works on item 0 with code 0
abbrev pub lone_state : ℤ → State
lone_state operand = record { item = 0; code = 0; operand = operand; arc_count = 0; arcs = 0 ∷ 0 ∷ 0 ∷ 0 ∷ [] }
