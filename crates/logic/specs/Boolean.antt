-- The sixteen Boolean functions of two words, by their truth tables.
use Rattle.std.specs.Prelude.{◌≡◌, ℕ, ◌+◌, ◌-◌, ◌*◌, ◌%◌, ◌^◌, ◌<◌, List, [], ◌∷◌, bit_and, bit_or, bit_xor, slice_index}
use Rattle.words.specs.Bits.{bit, complement, word}

-- what each instruction makes of the operand m and the accumulator a, by the number of its truth table
abbrev pub sixteen : ℕ → ℕ → List ℕ
sixteen m a =
    0  -- 0 SETZ
    ∷ bit_and (word m) (word a)  -- 1 AND
    ∷ bit_and (word m) (complement a)  -- 2 ANDCA
    ∷ word m  -- 3 SETM
    ∷ bit_and (word a) (complement m)  -- 4 ANDCM
    ∷ word a  -- 5 SETA
    ∷ bit_xor (word m) (word a)  -- 6 XOR
    ∷ bit_or (word m) (word a)  -- 7 IOR
    ∷ bit_and (complement a) (complement m)  -- 8 ANDCB
    ∷ complement (bit_xor (word m) (word a))  -- 9 EQV
    ∷ complement a  -- 10 SETCA
    ∷ bit_or (word m) (complement a)  -- 11 ORCA
    ∷ complement m  -- 12 SETCM
    ∷ bit_or (word a) (complement m)  -- 13 ORCM
    ∷ bit_or (complement a) (complement m)  -- 14 ORCB
    ∷ (2 ^ 36 - 1)  -- 15 SETO
    ∷ []

-- the function that a truth table names
unfoldable pub boolean_of : ℕ → ℕ → ℕ → ℕ
boolean_of table m a = slice_index (sixteen m a) (table % 16)

-- each bit is the table's, whose four bits from the highest answer the operand's and the accumulator's bits 00, 01, 10 and 11
abbrev pub ByTable : ℕ → ℕ → ℕ → ℕ → Type 0
ByTable table m a r = (k : ℕ) → k < 36 → bit r k ≡ bit (table % 16) (3 - (2 * bit m k + bit a k))
