use Rattle.std.proofs.Common.{◌≡◌, ℕ, ◌<◌, get_or}
use Rattle.packed.proofs.packing.unpack.Given as goal
use Rattle.packed.specs.Layout.{unpack}

abbrev pub invariant-loop-k : goal.invariant-loop-k
invariant-loop-k l = (j : ℕ) → j < l.k → get_or l.words j 0 ≡ get_or (unpack l.bytes) j 0
