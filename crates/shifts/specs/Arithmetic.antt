-- The arithmetic shifts: the sign, bit 0, never moves, and the bits beside it do.
use Rattle.std.specs.Prelude.{◌≡◌, ℕ, ◌+◌, ◌-◌, ◌*◌, ◌/◌, ◌%◌, ◌^◌, ◌<◌, Bool, false, cond, not, ◌==◌}
use Rattle.shifts.specs.Distance.{distance_of, places}
use Rattle.shifts.specs.declared.distances.Distance.{Distance}
use Rattle.shifts.specs.declared.distances.Distance.TheVariants.{Left, Right}
use Rattle.words.specs.Signed.{is_negative}

-- `width` bits beside a sign, moved: 0s come in at the right, and bits equal to the sign at the left
abbrev pub moved_beside : ℕ → Bool → ℕ → Distance → ℕ
moved_beside width minus m (Left n) = m * 2 ^ n % 2 ^ width
moved_beside width minus m (Right n) = m / 2 ^ n + cond minus (2 ^ width - 2 ^ (width - n)) 0

-- Overflow: the bits lost at the left are not all equal to the sign
abbrev pub overflows : ℕ → Bool → ℕ → Distance → Bool
overflows width minus m (Left n) = not (m * 2 ^ n / 2 ^ width == cond minus (2 ^ n - 1) 0)
overflows width minus m (Right n) = false

-- what bit 0 of a word adds to the word
abbrev pub sign_bit : ℕ → ℕ
sign_bit w = w % 2 ^ 36 / 2 ^ 35 * 2 ^ 35

-- ASH: the word and Overflow
unfoldable pub arithmetic : ℕ → ℕ → ℕ × Bool
arithmetic w e = (sign_bit w + moved_beside 35 (is_negative w) (w % 2 ^ 35) (distance_of e), overflows 35 (is_negative w) (w % 2 ^ 35) (distance_of e))

-- the sign is as it was
abbrev pub SignStays : ℕ → ℕ × Bool → Type 0
SignStays w r = is_negative r.0 ≡ is_negative w

-- the 70 bits beside the signs of two words; the second word's sign is no part of their value
abbrev pub beside : ℕ → ℕ → ℕ
beside a b = a % 2 ^ 35 * 2 ^ 35 + b % 2 ^ 35

-- 70 bits as two words that both have the sign of a
abbrev pub under_sign : ℕ → ℕ → Bool → ℕ × ℕ × Bool
under_sign a m overflow = (sign_bit a + m / 2 ^ 35, sign_bit a + m % 2 ^ 35, overflow)

-- ASHC: the two words and Overflow; no place at all leaves the second word's sign as it is
unfoldable pub arithmetic_pair : ℕ → ℕ → ℕ → ℕ × ℕ × Bool
arithmetic_pair a b e =
    cond (places (distance_of e) == 0)
    (a % 2 ^ 36, b % 2 ^ 36, false)
    (under_sign a (moved_beside 70 (is_negative a) (beside a b) (distance_of e)) (overflows 70 (is_negative a) (beside a b) (distance_of e)))

-- the first word's sign is as it was, and any move gives it to the second word
abbrev pub SignShared : ℕ → ℕ → ℕ × ℕ × Bool → Type 0
SignShared a e r = (is_negative r.0 ≡ is_negative a) × (0 < places (distance_of e) → is_negative r.1 ≡ is_negative a)
