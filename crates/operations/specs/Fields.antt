-- The fields of an instruction word: the code in bits 0–8, the accumulator in bits 9–12, the indirect bit 13, the
-- index register in bits 14–17, and the address in bits 18–35.
use Rattle.std.specs.Prelude.{ℕ, ◌/◌, ◌%◌, ◌^◌, Bool, ◌==◌}

abbrev pub opcode : ℕ → ℕ
opcode w = w / 2 ^ 27 % 512

abbrev pub accumulator : ℕ → ℕ
accumulator w = w / 2 ^ 23 % 16

-- whether the indirect bit is 0
abbrev pub direct : ℕ → Bool
direct w = w / 2 ^ 22 % 2 == 0

abbrev pub index : ℕ → ℕ
index w = w / 2 ^ 18 % 16
