-- How a part of a step ends: with which machine, and with an answer or at fault.
use Rattle.std.specs.Prelude.{Ok, Err, Result}
use Rattle.machine.specs.Machine.{Machine}
use Rattle.stops.specs.declared.stop.Stop.{Stop}

pub record Ended (A : Type 0) : Type 0 where
  pub after : Machine
  pub answer : Result A Stop

abbrev pub ended : {A : Type 0} → Machine → Result A Stop → Ended A
ended m r = record { after = m; answer = r }

-- goes on with an answer; at a fault it ends, with the machine as it is
abbrev pub onward : {A B : Type 0} → Result A Stop → Machine → (A → Ended B) → Ended B
onward (Ok x) m go = go x
onward (Err t) m go = ended m (Err t)

-- the same for what changes no machine
abbrev pub and_then : {A B : Type 0} → Result A Stop → (A → Result B Stop) → Result B Stop
and_then (Ok x) go = go x
and_then (Err t) go = Err t
