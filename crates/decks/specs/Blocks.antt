-- Words in whole blocks of 1,024.
use Rattle.std.specs.Prelude.{ℕ, ◌+◌, ◌/◌}

-- the blocks that n words need
abbrev pub blocks_for : ℕ → ℕ
blocks_for n = (n + 1023) / 1024
