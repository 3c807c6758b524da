-- The signed value of a word of 36 bits, in two's complement: bit 0, worth 2^35, makes it negative.
use Rattle.std.specs.Prelude.{ℕ, ◌%◌, ◌^◌, Bool, cond, ℤ, pos, ◌-ℤ◌, nat_le}

-- bit 0 of the low 36 bits
abbrev pub is_negative : ℕ → Bool
is_negative w = nat_le (2 ^ 35) (w % 2 ^ 36)

unfoldable pub signed : ℕ → ℤ
signed w = cond (is_negative w) (pos (w % 2 ^ 36) -ℤ pos (2 ^ 36)) (pos (w % 2 ^ 36))
