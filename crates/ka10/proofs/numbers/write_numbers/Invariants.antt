use Rattle.std.proofs.Common.{◌≡◌, ◌*◌, ◌++◌, take, drop}
use Rattle.ka10.proofs.numbers.write_numbers.Given as goal
use Rattle.ka10.specs.Numbers.{encoded}

abbrev pub invariant-loop-i : goal.invariant-loop-i
invariant-loop-i l = l.bytes ≡ encoded (take l.i l.given) ++ drop (8 * l.i) l.initial.bytes
