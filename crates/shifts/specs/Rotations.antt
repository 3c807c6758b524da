-- The rotations: what passes one end comes in at the other.
use Rattle.std.specs.Prelude.{◌≡◌, ℕ, ◌+◌, ◌-◌, ◌*◌, ◌/◌, ◌%◌, ◌^◌}
use Rattle.shifts.specs.Distance.{distance_of, opposite}
use Rattle.shifts.specs.Pair.{paired, halves}
use Rattle.shifts.specs.declared.distances.Distance.{Distance}
use Rattle.shifts.specs.declared.distances.Distance.TheVariants.{Left, Right}

-- a number of j + k bits, with its j low bits moved above its k high bits
abbrev pub exchanged : ℕ → ℕ → ℕ → ℕ
exchanged j k m = m % 2 ^ j * 2 ^ k + m / 2 ^ j

-- a number of `width` bits, rotated
abbrev pub turned : ℕ → ℕ → Distance → ℕ
turned width m (Left n) = exchanged (width - n % width) (n % width) m
turned width m (Right n) = exchanged (n % width) (width - n % width) m

-- ROT
unfoldable pub rotated : ℕ → ℕ → ℕ
rotated w e = turned 36 (w % 2 ^ 36) (distance_of e)

-- ROTC
unfoldable pub rotated_pair : ℕ → ℕ → ℕ → ℕ × ℕ
rotated_pair a b e = halves (turned 72 (paired a b) (distance_of e))

-- a rotation and the same rotation back lose nothing
abbrev pub RotatedThereAndBack : ℕ → ℕ → ℕ → Type 0
RotatedThereAndBack w e r = rotated r (opposite e) ≡ w % 2 ^ 36

abbrev pub RotatedPairThereAndBack : ℕ → ℕ → ℕ → ℕ × ℕ → Type 0
RotatedPairThereAndBack a b e r = rotated_pair r.0 r.1 (opposite e) ≡ (a % 2 ^ 36, b % 2 ^ 36)
