-- The jumps that look at no memory: AOBJP, AOBJN, JRST and JFCL.
use Rattle.std.specs.Prelude.{ℕ, ◌*◌, ◌%◌, ◌^◌, Bool, true, false, cond, not, Some, None, Option, ◌==◌, bit_and, bit_or}
use Rattle.words.specs.Signed.{is_negative}
use Rattle.instructions.specs.Pointers.{pointer_up}
use Rattle.instructions.specs.Results.{cleared, flagged, jump_if, jumped, to_a, wordless}
use Rattle.logic.specs.Halves.{left}
use Rattle.operations.specs.declared.effect.Effect.{Effect}
use Rattle.operations.specs.declared.effect.Inputs.{Inputs}
use Rattle.operations.specs.declared.effect.Status.{Status}

-- AOBJP 252: 1 is added to both halves of A, and the program goes on at E if A is then not negative
abbrev pub aobjp_of : Inputs → Effect
aobjp_of given = to_a (pointer_up given.ac) (jump_if (not (is_negative (pointer_up given.ac))) given.e given.status)

-- AOBJN 253: the same, if A is then negative
abbrev pub aobjn_of : Inputs → Effect
aobjn_of given = to_a (pointer_up given.ac) (jump_if (is_negative (pointer_up given.ac)) given.e given.status)

-- The flags that a program may restore from the left half of a word: Overflow 400000, Carry 0 200000, Carry 1 100000,
-- Floating Overflow 040000, Byte Interrupt 020000, Floating Underflow 000100 and No Divide 000040. User 010000 stays on.
abbrev pub restored_flags : ℕ → ℕ
restored_flags w = bit_or (bit_and (left w) 0o760140) 0o010000

abbrev pub flags_from : Option ℕ → Status → Status
flags_from None s = s
flags_from (Some w) s = flagged (restored_flags w) s

-- JRST 254: the program goes on at E; JRST 2, restores the flags too
abbrev pub jrst_of : Bool → Inputs → Effect
jrst_of false given = wordless (jumped given.e given.status)
jrst_of true given = wordless (jumped given.e (flags_from given.flag_word given.status))

-- the flags that the accumulator field selects: 8 Overflow 400000, 4 Carry 0 200000, 2 Carry 1 100000, 1 Floating Overflow 040000
abbrev pub selected_flags : ℕ → ℕ
selected_flags field = field % 16 * 2 ^ 14

-- JFCL 255: if a selected flag is on, the selected flags are cleared and the program goes on at E
abbrev pub clear_and_jump : ℕ → ℕ → Status → Status
clear_and_jump which e s = cond (bit_and s.flags which == 0) s (jumped e (flagged (cleared which s.flags) s))

abbrev pub jfcl_of : Inputs → Effect
jfcl_of given = wordless (clear_and_jump (selected_flags given.field) given.e given.status)
