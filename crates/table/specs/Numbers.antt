-- The numbers by which refused calls are told.
use Rattle.std.specs.Prelude.{ℕ}
use Rattle.jobs.specs.declared.record.EnterError.{EnterError}
use Rattle.jobs.specs.declared.record.EnterError.TheVariants as enter
use Rattle.table.specs.declared.answer.Refusal.{Refusal}
use Rattle.table.specs.declared.answer.Refusal.TheVariants.{Misfit, NoSuchPlace, NoSuchType, PlaceTaken, NoJob, NotAwaited, NotFinished}

abbrev pub number : Refusal → ℕ
number Misfit = 8
number NoSuchPlace = 10
number NoSuchType = 11
number PlaceTaken = 12
number NoJob = 13
number NotAwaited = 14
number NotFinished = 15

-- and by which a begin is told why its job is not entered
abbrev pub enter_number : EnterError → ℕ
enter_number enter.NoSuchPlace = 10
enter_number enter.NoSuchType = 11
enter_number enter.PlaceTaken = 12
