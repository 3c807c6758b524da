use Rattle.machine.proofs.execute.execute.Given as goal
use Rattle.machine.specs.Execution.{executed}
use Rattle.machine.specs.Machine.{state}
use Rattle.machine.specs.User.{outside}
use Rattle.std.proofs.Common.{◌≡◌}

abbrev pub invariant-loop-stop : goal.invariant-loop-stop
invariant-loop-stop g l =
    record {
      does : executed l.budget (state l.place (g.C.Core.words l.core)) l.word
          ≡ executed 63 (state l.initial.place (g.C.Core.words l.initial.core)) l.first;
      keeps : outside l.place.space (g.C.Core.words l.core) (g.C.Core.rest l.core)
          ≡ outside l.initial.place.space (g.C.Core.words l.initial.core) (g.C.Core.rest l.initial.core);
    }

abbrev pub decreases-loop-stop : goal.decreases-loop-stop
decreases-loop-stop g l = l.budget
