-- Calls of the monitor, and codes that are not installed: the run stops with the word that was executed.
use Rattle.operations.specs.declared.effect.Effect.{Effect}
use Rattle.operations.specs.declared.effect.Inputs.{Inputs}
use Rattle.operations.specs.declared.effect.Status.{Status}
use Rattle.std.specs.Prelude.{Some, None}
use Rattle.stops.specs.declared.stop.Stop.{Stop}
use Rattle.stops.specs.declared.stop.Stop.TheVariants.{MonitorCall, NotInstalled}

-- no word changes, and the run stops
abbrev pub stopped : Stop → Status → Effect
stopped stop s = record { store = None; a = None; a1 = None; status = s; stop = Some stop }

abbrev pub monitor_call_of : Inputs → Effect
monitor_call_of given = stopped (MonitorCall given.call) given.status

abbrev pub not_installed_of : Inputs → Effect
not_installed_of given = stopped (NotInstalled given.call) given.status
