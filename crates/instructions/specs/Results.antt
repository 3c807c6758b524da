-- What the effects of the instructions are made of: where a result goes, and where the program goes on.
use Rattle.std.specs.Prelude.{ℕ, ◌+◌, ◌-◌, ◌%◌, ◌^◌, Bool, cond, Some, None, Option, ◌==◌, bit_and}
use Rattle.arithmetic.specs.Flags.{flags_after}
use Rattle.operations.specs.declared.effect.Effect.{Effect}
use Rattle.operations.specs.declared.effect.Inputs.{Inputs}
use Rattle.operations.specs.declared.effect.Status.{Status}
use Rattle.operations.specs.declared.operation.Mode.{Mode}
use Rattle.operations.specs.declared.operation.Mode.TheVariants.{Basic, Immediate, Memory, Both}

-- what is stored in memory, the new words of A and of A + 1, and the status after; no stop
abbrev pub effect : Option (ℕ × ℕ) → Option ℕ → Option ℕ → Status → Effect
effect m a b s = record { store = m; a = a; a1 = b; status = s; stop = None }

-- no word changes
abbrev pub wordless : Status → Effect
wordless s = effect None None None s

-- a word to A
abbrev pub to_a : ℕ → Status → Effect
to_a w s = effect None (Some w) None s

-- a word to E
abbrev pub to_memory : ℕ → ℕ → Status → Effect
to_memory e w s = effect (Some (e, w)) None None s

-- a word to E and to A
abbrev pub to_both : ℕ → ℕ → Status → Effect
to_both e w s = effect (Some (e, w)) (Some w) None s

-- the new word of A where A is written only if it is not accumulator 0
abbrev pub unless_zero : ℕ → ℕ → Option ℕ
unless_zero field w = cond (field == 0) None (Some w)

-- the operand of an arithmetic or Boolean instruction
abbrev pub operand_of : Mode → Inputs → ℕ
operand_of Basic given = given.operand
operand_of Immediate given = given.e
operand_of Memory given = given.operand
operand_of Both given = given.operand

-- the address that it reads: E but in immediate mode
abbrev pub read_by_mode : Mode → ℕ → Option ℕ
read_by_mode Basic e = Some e
read_by_mode Immediate e = None
read_by_mode Memory e = Some e
read_by_mode Both e = Some e

-- where an arithmetic or Boolean instruction puts its result
abbrev pub by_mode : Mode → ℕ → Inputs → Status → Effect
by_mode Basic w given s = to_a w s
by_mode Immediate w given s = to_a w s
by_mode Memory w given s = to_memory given.e w s
by_mode Both w given s = to_both given.e w s

-- the status with other flags
abbrev pub flagged : ℕ → Status → Status
flagged flags s = record { pc = s.pc; flags = flags }

-- the flags with some of them off
abbrev pub cleared : ℕ → ℕ → ℕ
cleared which flags = flags - bit_and flags which

-- the status after a sum with its two carries
abbrev pub after_sum : ℕ × Bool × Bool → Status → Status
after_sum r s = flagged (flags_after s.flags r.1 r.2) s

-- the address after an address
abbrev pub following : ℕ → ℕ
following e = (e + 1) % 2 ^ 18

-- the program goes on at E
abbrev pub jumped : ℕ → Status → Status
jumped e s = record { pc = e; flags = s.flags }

abbrev pub jump_if : Bool → ℕ → Status → Status
jump_if b e s = cond b (jumped e s) s

-- the next instruction is skipped
abbrev pub skip_if : Bool → Status → Status
skip_if b s = cond b (jumped (following s.pc) s) s
