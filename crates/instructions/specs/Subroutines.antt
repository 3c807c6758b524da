-- The calls of subroutines that keep the way back in a word or an accumulator: JSR, JSP, JSA, and JRA that returns.
use Rattle.std.specs.Prelude.{ℕ, Some, None}
use Rattle.instructions.specs.Results.{cleared, effect, following, jumped, to_a, to_memory}
use Rattle.logic.specs.Halves.{halves}
use Rattle.operations.specs.declared.effect.Effect.{Effect}
use Rattle.operations.specs.declared.effect.Inputs.{Inputs}
use Rattle.operations.specs.declared.effect.Status.{Status}

-- the PC word: the flags,,the address of the next instruction
abbrev pub pc_word : Status → ℕ
pc_word s = halves s.flags s.pc

-- the program goes on at E, with Byte Interrupt 020000 off, which the PC word has kept
abbrev pub called : ℕ → Status → Status
called e s = record { pc = e; flags = cleared 0o020000 s.flags }

-- JSR 264: the PC word to E, and on at E + 1
abbrev pub jsr_of : Inputs → Effect
jsr_of given = to_memory given.e (pc_word given.status) (called (following given.e) given.status)

-- JSP 265: the PC word to A, and on at E
abbrev pub jsp_of : Inputs → Effect
jsp_of given = to_a (pc_word given.status) (called given.e given.status)

-- JSA 266: A to E, the word E,,PC to A, and on at E + 1
abbrev pub jsa_of : Inputs → Effect
jsa_of given = effect (Some (given.e, given.ac)) (Some (halves given.e given.status.pc)) None (jumped (following given.e) given.status)

-- JRA 267: the word that the left half of A addresses to A, and on at E
abbrev pub jra_of : Inputs → Effect
jra_of given = to_a given.operand (jumped given.e given.status)
