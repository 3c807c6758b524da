-- The signed values that a word can have.
use Rattle.std.specs.Prelude.{◌^◌, ℤ, pos, neg_ℤ, ◌≤ℤ◌, ◌<ℤ◌}

-- −2^35 ≤ z < 2^35: z is the signed value of a word
abbrev pub Representable : ℤ → Type 0
Representable z = (neg_ℤ (pos (2 ^ 35)) ≤ℤ z) × (z <ℤ pos (2 ^ 35))
