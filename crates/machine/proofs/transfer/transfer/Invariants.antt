use Rattle.std.proofs.Common.{◌≡◌, ◌+◌, ◌-◌, ◌%◌, ◌^◌}
use Rattle.machine.proofs.transfer.transfer.Given as goal
use Rattle.machine.specs.Machine.{state}
use Rattle.machine.specs.Transfer.{transferred}
use Rattle.machine.specs.User.{outside}

abbrev pub invariant-loop-k : goal.invariant-loop-k
invariant-loop-k g l =
    record {
      does : transferred (l.count - l.k) ((l.from + l.k) % 2 ^ 18) ((l.to + l.k) % 2 ^ 18) (state l.place (g.C.Core.words l.core))
          ≡ transferred l.count l.from l.to (state l.initial.place (g.C.Core.words l.initial.core));
      keeps : outside l.place.space (g.C.Core.words l.core) (g.C.Core.rest l.core)
          ≡ outside l.initial.place.space (g.C.Core.words l.initial.core) (g.C.Core.rest l.initial.core);
    }
