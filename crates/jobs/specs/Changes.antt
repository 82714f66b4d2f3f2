-- What a change makes of a record and of its place.
use Rattle.std.specs.Prelude.{true, false, cond, not, ◌&&◌, Some, None, Option}
use Rattle.jobs.specs.declared.record.JobRecord.{JobRecord}
use Rattle.jobs.specs.declared.change.Change.{Change}
use Rattle.jobs.specs.declared.change.Change.TheVariants.{Nothing, Held, NewLock, Worked, Arrived, Ended}

abbrev pub changed : JobRecord → Change → JobRecord
changed r Nothing = r
changed r (Held h) = record r { held = h }
changed r (NewLock h l n) = record r { held = h; locked = l; next = n }
changed r (Worked p) = record r { worked = true; register = p }
changed r (Arrived s u) = record r { state = s; worked = false; done = u }
changed r Ended = record r { finished = true }

-- a place is empty once its job is finished and nobody awaits it
abbrev pub seated : JobRecord → Option JobRecord
seated r = cond (r.finished && not r.awaited) None (Some r)

abbrev pub changed_place : Option JobRecord → Change → Option JobRecord
changed_place None c = None
changed_place (Some r) c = seated (changed r c)
