-- The numbers by which the faults of a file are told.
use Rattle.std.specs.Prelude.{ℕ, Some, None, Option}
use Rattle.workload.specs.declared.fault.Fault.{Fault}
use Rattle.workload.specs.declared.fault.Fault.TheVariants.{Missing, Mark, Count, Tree, Record, Stray, Tail, Memory}

-- the number of a fault and its place in the file; want of memory has neither
abbrev pub numbered : Fault → Option (ℕ × ℕ)
numbered (Missing place) = Some (1, place)
numbered (Mark place) = Some (2, place)
numbered (Count place) = Some (3, place)
numbered (Tree place) = Some (4, place)
numbered (Record place) = Some (5, place)
numbered (Stray place) = Some (6, place)
numbered (Tail place) = Some (7, place)
numbered Memory = None
