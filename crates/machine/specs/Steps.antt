-- A step, and a run of steps.
use Rattle.std.specs.Prelude.{◌≡◌, ℕ, zero, suc, ◌+◌, ◌%◌, ◌^◌, cond, Some, None, Ok, Err, Option, Result}
use Rattle.operations.specs.declared.effect.Status.{Status}
use Rattle.machine.specs.Endings.{Ended}
use Rattle.machine.specs.Execution.{executed}
use Rattle.machine.specs.User.{fetched}
pub use Rattle.machine.specs.Machine.{Machine, machine, state}
use Rattle.stops.specs.Stops.{step_counts}
use Rattle.stops.specs.declared.stop.Stop.{Stop}
use Rattle.stops.specs.declared.stop.Stop.TheVariants.{StepsDone}

-- a step: the machine after it, and a stop if it made one
pub record Stepped : Type 0 where
  pub after : Machine
  pub stop : Option Stop

abbrev pub stepped : Machine → Option Stop → Stepped
stepped m t = record { after = m; stop = t }

-- after a fault PC and flags are as before the step; the words that were written stand
abbrev pub settled_by : Result (Option Stop) Stop → Machine → Status → Stepped
settled_by (Ok t) m before = stepped m t
settled_by (Err t) m before = stepped (machine m.user before) (Some t)

abbrev pub settled : Status → Ended (Option Stop) → Stepped
settled before x = settled_by x.answer x.after before

abbrev pub advanced : Status → Status
advanced s = record { pc = (s.pc + 1) % 2 ^ 18; flags = s.flags }

abbrev pub stepped_from : Result ℕ Stop → Machine → Stepped
stepped_from (Ok w) m = settled m.status (executed 63 (machine m.user (advanced m.status)) w)
stepped_from (Err t) m = stepped m (Some t)

-- the step rule: a word is fetched from where PC points, PC goes on by 1, and that word is executed
unfoldable pub step_of : Machine → Stepped
step_of m = stepped_from (fetched m.user m.status.pc) m

-- the stop that a result tells
abbrev pub stop_of : Result (Unit {0}) Stop → Option Stop
stop_of (Ok u) = None
stop_of (Err t) = Some t

-- a run: the machine after it, the steps that are done, and the stop if a step made one
pub record Ran : Type 0 where
  pub after : Machine
  pub steps : ℕ
  pub stop : Option Stop

abbrev pub went : Machine → ℕ → Option Stop → Ran
went m d t = record { after = m; steps = d; stop = t }

-- the same with k steps done before it
abbrev pub later : ℕ → Ran → Ran
later k r = went r.after (k + r.steps) r.stop

-- a step that stops the program counts or does not
abbrev pub counted : Stop → ℕ
counted t = cond (step_counts t) 1 0

abbrev pub goes_on : Option Stop → Machine → (Machine → Ran) → Ran
goes_on None m go = later 1 (go m)
goes_on (Some t) m go = went m (counted t) (Some t)

-- the step rule repeated n times, unless a step stops the program
unfoldable pub run_of : ℕ → Machine → Ran
run_of zero m = went m 0 None
run_of (suc n) m = goes_on (step_of m).stop (step_of m).after (run_of n)

-- what a run replies: stop 0 where no step made one
pub record Replied : Type 0 where
  pub after : Machine
  pub steps : ℕ
  pub stop : Stop

abbrev pub ran : Machine → ℕ → Stop → Replied
ran m d t = record { after = m; steps = d; stop = t }

abbrev pub replied_stop : Option Stop → Stop
replied_stop None = StepsDone
replied_stop (Some t) = t

abbrev pub replied : Ran → Replied
replied r = ran r.after r.steps (replied_stop r.stop)

-- a run, and then a run of n more if no step stopped the first
abbrev pub and_on : Option Stop → Ran → ℕ → Ran
and_on None r n = later r.steps (run_of n r.after)
and_on (Some t) r n = r

-- a run of m + n steps is a run of m and then, if that came to its end, a run of n
abbrev pub RunSplits : Type 0
RunSplits = (m n : ℕ) (x : Machine) → run_of (m + n) x ≡ and_on (run_of m x).stop (run_of m x) n
