-- The flags that a sum's carries raise. Flags are a half of a word: Overflow is worth 2^17, Carry 0 2^16 and Carry 1 2^15.
use Rattle.std.specs.Prelude.{◌≡◌, ℕ, ◌/◌, ◌%◌, ◌^◌, Bool, cond, ◌||◌, ◌==◌, bit_or}
use Rattle.std.specs.Bool.{xor}

abbrev pub raised : Bool → ℕ → ℕ → ℕ
raised b flag f = cond b (bit_or f flag) f

unfoldable pub flags_after : ℕ → Bool → Bool → ℕ
flags_after f c0 c1 = raised c1 0o100000 (raised c0 0o200000 (raised (xor c0 c1) 0o400000 f))

-- whether the bit worth 2^k is set
abbrev pub is_set : ℕ → ℕ → Bool
is_set k f = f / 2 ^ k % 2 == 1

-- A flag is set after a sum exactly if it was set before or the sum raises it, and no other bit changes.
pub record FlagsLaw (f : ℕ) (c0 c1 : Bool) (r : ℕ) : Type 0 where
  pub overflow : is_set 17 r ≡ (is_set 17 f || xor c0 c1)
  pub carry-0 : is_set 16 r ≡ (is_set 16 f || c0)
  pub carry-1 : is_set 15 r ≡ (is_set 15 f || c1)
  pub below : r % 2 ^ 15 ≡ f % 2 ^ 15
  pub above : r / 2 ^ 18 ≡ f / 2 ^ 18
