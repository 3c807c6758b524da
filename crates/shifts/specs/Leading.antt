-- The count of JFFO.
use Rattle.std.specs.Prelude.{ℕ, ◌-◌, ◌%◌, ◌^◌, ◌<◌, ◌≤◌, cond, ◌==◌}
use Rattle.std.specs.Int.Count.{count_leading_zeros}

-- how many of a word's 36 bits are 0s to the left of its first 1; of the word 0 the answer is 0
unfoldable pub zeros_ahead : ℕ → ℕ
zeros_ahead w = cond (w % 2 ^ 36 == 0) 0 (count_leading_zeros 36 (w % 2 ^ 36))

-- the first 1 of a word that has one stands at bit n, which is worth 2^(35 - n)
abbrev pub FirstOneAt : ℕ → ℕ → Type 0
FirstOneAt w n = 0 < w % 2 ^ 36 → (2 ^ (35 - n) ≤ w % 2 ^ 36) × (w % 2 ^ 36 < 2 ^ (36 - n))
