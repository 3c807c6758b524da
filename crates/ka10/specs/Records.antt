-- A record: what its twenty numbers say of a program, and when they can be those of one.
use Rattle.std.specs.Prelude.{ℕ, ◌+◌, ◌^◌, Bool, ◌&&◌, List, [], ◌∷◌, ◌++◌, take, ◌==◌, bit_and, nat_le, nat_lt, slice_index}
use Rattle.ka10.specs.Numbers.{numbers, encoded}
use Rattle.ka10.specs.declared.records.Record.{Record}
use Rattle.words.specs.Word.{are_words}

-- sixteen accumulators, PC, flags, count and allowance
abbrev pub record_in : List ℕ → Record
record_in ns = record { accumulators = take 16 ns; pc = slice_index ns 16; flags = slice_index ns 17; count = slice_index ns 18; allowance = slice_index ns 19 }

-- the record that these bytes hold
abbrev pub record_of : List ℕ → Record
record_of bytes = record_in (numbers bytes)

-- its twenty numbers
abbrev pub record_numbers : Record → List ℕ
record_numbers p = p.accumulators ++ (p.pc ∷ p.flags ∷ p.count ∷ p.allowance ∷ [])

-- the bytes that hold this record
abbrev pub record_bytes : Record → List ℕ
record_bytes p = encoded (record_numbers p)

-- Overflow, Carry 0, Carry 1, Floating Overflow, Byte Interrupt, User, Floating Underflow and No Divide
abbrev pub listed_flags : ℕ
listed_flags = 0o400000 + 0o200000 + 0o100000 + 0o040000 + 0o020000 + 0o010000 + 0o000100 + 0o000040

-- no flag that is not listed, and User on
abbrev pub good_flags : ℕ → Bool
good_flags f = bit_and f listed_flags == f && bit_and f 0o010000 == 0o010000

abbrev pub good_record : Record → Bool
good_record p =
    are_words p.accumulators && nat_lt p.pc (2 ^ 18) && good_flags p.flags
    && nat_le p.count p.allowance && nat_le p.allowance 1000000000000
