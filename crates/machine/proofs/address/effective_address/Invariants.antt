use Rattle.machine.proofs.address.effective_address.Given as goal
use Rattle.machine.specs.Address.{effective}
use Rattle.machine.specs.User.{user}
use Rattle.std.proofs.Common.{◌≡◌, None}

abbrev pub invariant-loop-here : goal.invariant-loop-here
invariant-loop-here g l =
    let u = user l.space (g.C.Core.words l.core) in
    effective l.budget l.last u l.at ≡ effective 64 None u l.word

abbrev pub decreases-loop-here : goal.decreases-loop-here
decreases-loop-here g l = l.budget
