-- The bits of a 36-bit word.
use Rattle.std.specs.Prelude.{ℕ, ◌-◌, ◌/◌, ◌%◌, ◌^◌}

-- the bit of the value 2^k
abbrev pub bit : ℕ → ℕ → ℕ
bit w k = w / 2 ^ k % 2

-- the low 36 bits
abbrev pub word : ℕ → ℕ
word w = w % 2 ^ 36

-- the other of each of the low 36 bits
abbrev pub complement : ℕ → ℕ
complement w = 2 ^ 36 - 1 - w % 2 ^ 36
