-- The logical shifts: 0s come in at the end that falls empty, and what passes the other end is lost.
use Rattle.std.specs.Prelude.{◌≡◌, ℕ, ◌-◌, ◌*◌, ◌/◌, ◌%◌, ◌^◌}
use Rattle.shifts.specs.Distance.{distance_of, opposite}
use Rattle.shifts.specs.Pair.{paired, halves}
use Rattle.shifts.specs.declared.distances.Distance.{Distance}
use Rattle.shifts.specs.declared.distances.Distance.TheVariants.{Left, Right}

-- a number of `width` bits, shifted
abbrev pub shifted : ℕ → ℕ → Distance → ℕ
shifted width m (Left n) = m * 2 ^ n % 2 ^ width
shifted width m (Right n) = m / 2 ^ n

-- LSH
unfoldable pub logical : ℕ → ℕ → ℕ
logical w e = shifted 36 (w % 2 ^ 36) (distance_of e)

-- LSHC
unfoldable pub logical_pair : ℕ → ℕ → ℕ → ℕ × ℕ
logical_pair a b e = halves (shifted 72 (paired a b) (distance_of e))

-- what a shift and the same shift back leave: all that did not pass the end, in its old place.
-- After a move to the left those are the lowest bits, after a move to the right the highest
abbrev pub kept : ℕ → ℕ → Distance → ℕ
kept width m (Left n) = m % 2 ^ (width - n)
kept width m (Right n) = m / 2 ^ n * 2 ^ n

abbrev pub LogicalThereAndBack : ℕ → ℕ → ℕ → Type 0
LogicalThereAndBack w e r = logical r (opposite e) ≡ kept 36 (w % 2 ^ 36) (distance_of e)

abbrev pub LogicalPairThereAndBack : ℕ → ℕ → ℕ → ℕ × ℕ → Type 0
LogicalPairThereAndBack a b e r = logical_pair r.0 r.1 (opposite e) ≡ halves (kept 72 (paired a b) (distance_of e))
