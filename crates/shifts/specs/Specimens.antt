-- Specimens: what each operation gives of words written out, in octal.
use Rattle.shifts.specs.Arithmetic.{arithmetic, arithmetic_pair}
use Rattle.shifts.specs.Distance.{distance_of}
use Rattle.shifts.specs.Leading.{zeros_ahead}
use Rattle.shifts.specs.Logical.{logical, logical_pair}
use Rattle.shifts.specs.Rotations.{rotated, rotated_pair}
use Rattle.shifts.specs.declared.distances.Distance.TheVariants.{Left, Right}
use Rattle.std.specs.Prelude.{◌≡◌, true, false}

-- -256 moves nothing, and -255 moves farthest
abbrev pub DistanceSpecimens : Type 0
DistanceSpecimens = (distance_of 0o377 ≡ Left 255) × (distance_of 0o400 ≡ Left 0) × (distance_of 0o777400 ≡ Right 0) × (distance_of 0o777401 ≡ Right 255)

abbrev pub LogicalSpecimens : Type 0
LogicalSpecimens = (logical 0o777777_777777 0o22 ≡ 0o777777_000000) × (logical 0o777777_777777 0o777756 ≡ 0o777777)

-- the second word's bit 0 moves into the first word's bit 35
abbrev pub LogicalPairSpecimens : Type 0
LogicalPairSpecimens = (logical_pair 0 0o400000_000000 1 ≡ (1, 0)) × (logical_pair 1 0 0o777777 ≡ (0, 0o400000_000000))

-- the lowest bit turns round to the highest
abbrev pub RotatedSpecimens : Type 0
RotatedSpecimens = (rotated 1 0o777777 ≡ 0o400000_000000) × (rotated 0o400000_000000 1 ≡ 1)

abbrev pub RotatedPairSpecimens : Type 0
RotatedPairSpecimens = (rotated_pair 0 1 0o777777 ≡ (0o400000_000000, 0)) × (rotated_pair 0o400000_000000 0 1 ≡ (0, 1))

-- -1 moved 35 places to the left is the least number; moved once more it overflows
abbrev pub ArithmeticSpecimens : Type 0
ArithmeticSpecimens =
    (arithmetic 0o777777_777777 0o43 ≡ (0o400000_000000, false)) × (arithmetic 0o777777_777777 0o44 ≡ (0o400000_000000, true)) × (arithmetic 0o777777_777775 0o777777 ≡ (0o777777_777776, false))

-- the second word's sign is left as it is by no place, and taken from the first by one
abbrev pub ArithmeticPairSpecimens : Type 0
ArithmeticPairSpecimens =
    (arithmetic_pair 0 0o400000_000001 0 ≡ (0, 0o400000_000001, false)) × (arithmetic_pair 0 0o400000_000001 1 ≡ (0, 2, false)) × (arithmetic_pair 0o777777_777777 0 0o777777 ≡ (0o777777_777777, 0o600000_000000, false))

abbrev pub LeadingSpecimens : Type 0
LeadingSpecimens = (zeros_ahead 1 ≡ 0o43) × (zeros_ahead 0o400000_000000 ≡ 0) × (zeros_ahead 0 ≡ 0)
