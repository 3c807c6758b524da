-- How far an effective address E moves a word. E has 18 bits, and the highest is its sign, worth 2^17.
use Rattle.std.specs.Prelude.{◌≡◌, ℕ, ◌-◌, ◌%◌, ◌^◌, ◌<◌, cond, nat_lt}
use Rattle.shifts.specs.declared.distances.Distance.{Distance}
use Rattle.shifts.specs.declared.distances.Distance.TheVariants.{Left, Right}

-- E that is not negative moves to the left, by its low eight bits; E that is negative moves to the right, by the low eight bits of its magnitude
unfoldable pub distance_of : ℕ → Distance
distance_of e = cond (nat_lt (e % 2 ^ 18) (2 ^ 17)) (Left (e % 256)) (Right ((2 ^ 18 - e % 2 ^ 18) % 256))

-- so 255 places are the most
abbrev pub UpTo255 : Distance → Type 0
UpTo255 (Left n) = n < 256
UpTo255 (Right n) = n < 256

-- the E that moves as far the other way
abbrev pub opposite : ℕ → ℕ
opposite e = (2 ^ 18 - e % 2 ^ 18) % 2 ^ 18

-- how many places, whichever way
abbrev pub places : Distance → ℕ
places (Left n) = n
places (Right n) = n

-- E moves nothing
abbrev pub NoPlace : ℕ → Type 0
NoPlace e = places (distance_of e) ≡ 0
