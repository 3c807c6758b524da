use Rattle.std.proofs.Common.{◌≡◌, ℕ, ◌*◌, ◌<◌, get_or}
use Rattle.packed.proofs.RoundTrips.{Octets}
use Rattle.packed.proofs.packing.pack.Given as goal
use Rattle.packed.specs.Layout.{unpack}

abbrev pub invariant-loop-i : goal.invariant-loop-i
invariant-loop-i l = record { so_far : (j : ℕ) → j < 2 * l.i → get_or (unpack l.bytes) j 0 ≡ get_or l.words j 0; octets : Octets l.bytes }
