-- Pointers: a count in the left half, an address in the right half. The word 1,,1 is added to a pointer or taken from it as one
-- number, so that a carry out of the right half goes into the left one.
use Rattle.std.specs.Prelude.{ℕ, ◌+◌, ◌-◌, ◌%◌, ◌^◌}

abbrev pub pointer_up : ℕ → ℕ
pointer_up w = (w + 0o000001_000001) % 2 ^ 36

abbrev pub pointer_down : ℕ → ℕ
pointer_down w = (w + 2 ^ 36 - 0o000001_000001) % 2 ^ 36
