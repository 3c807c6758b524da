-- Two words side by side, as one number of 72 bits: the first word has the high half.
use Rattle.std.specs.Prelude.{ℕ, ◌+◌, ◌*◌, ◌/◌, ◌%◌, ◌^◌}

abbrev pub paired : ℕ → ℕ → ℕ
paired a b = a % 2 ^ 36 * 2 ^ 36 + b % 2 ^ 36

abbrev pub halves : ℕ → ℕ × ℕ
halves m = (m / 2 ^ 36, m % 2 ^ 36)
