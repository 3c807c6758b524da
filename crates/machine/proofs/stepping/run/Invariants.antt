use Rattle.std.proofs.Common.{◌≡◌, ◌-◌}
use Rattle.machine.proofs.stepping.run.Given as goal
use Rattle.machine.specs.Machine.{state}
use Rattle.machine.specs.Steps.{later, run_of}
use Rattle.machine.specs.User.{outside}

abbrev pub invariant-loop-done : goal.invariant-loop-done
invariant-loop-done g l =
    record {
      does : later l.done (run_of (l.most - l.done) (state l.place (g.C.Core.words l.core)))
          ≡ run_of l.most (state l.initial.place (g.C.Core.words l.initial.core));
      keeps : outside l.place.space (g.C.Core.words l.core) (g.C.Core.rest l.core)
          ≡ outside l.initial.place.space (g.C.Core.words l.initial.core) (g.C.Core.rest l.initial.core);
    }
