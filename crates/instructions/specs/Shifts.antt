-- The shifts and rotations of A, or of A and A + 1 as one number, and JFFO.
use Rattle.std.specs.Prelude.{ℕ, ◌%◌, ◌^◌, Bool, not, Some, None, ◌==◌}
use Rattle.arithmetic.specs.Flags.{raised}
use Rattle.instructions.specs.Results.{effect, flagged, jump_if, to_a}
use Rattle.operations.specs.declared.effect.Effect.{Effect}
use Rattle.operations.specs.declared.effect.Inputs.{Inputs}
use Rattle.operations.specs.declared.effect.Status.{Status}
use Rattle.operations.specs.declared.operation.Shift.{Shift}
use Rattle.operations.specs.declared.operation.Shift.TheVariants.{Ash, Rot, Lsh, Ashc, Rotc, Lshc}
use Rattle.shifts.specs.Arithmetic.{arithmetic, arithmetic_pair}
use Rattle.shifts.specs.Leading.{zeros_ahead}
use Rattle.shifts.specs.Logical.{logical, logical_pair}
use Rattle.shifts.specs.Rotations.{rotated, rotated_pair}

-- Overflow 400000 comes on if a bit that counts was lost
abbrev pub overflow_if : Bool → Status → Status
overflow_if b s = flagged (raised b 0o400000 s.flags) s

-- a word to A
abbrev pub arithmetic_to : ℕ × Bool → Status → Effect
arithmetic_to r s = to_a r.0 (overflow_if r.1 s)

-- two words to A and A + 1
abbrev pub pair_to : ℕ × ℕ → Status → Effect
pair_to r s = effect None (Some r.0) (Some r.1) s

abbrev pub arithmetic_pair_to : ℕ × ℕ × Bool → Status → Effect
arithmetic_pair_to r s = effect None (Some r.0) (Some r.1) (overflow_if r.2 s)

-- ASH 240, ROT 241, LSH 242, ASHC 244, ROTC 245, LSHC 246: E says how far and which way
abbrev pub shift_of : Shift → Inputs → Effect
shift_of Ash given = arithmetic_to (arithmetic given.ac given.e) given.status
shift_of Rot given = to_a (rotated given.ac given.e) given.status
shift_of Lsh given = to_a (logical given.ac given.e) given.status
shift_of Ashc given = arithmetic_pair_to (arithmetic_pair given.ac given.next given.e) given.status
shift_of Rotc given = pair_to (rotated_pair given.ac given.next given.e) given.status
shift_of Lshc given = pair_to (logical_pair given.ac given.next given.e) given.status

-- JFFO 243: the number of 0s to the left of the first 1 of A to A + 1, and on at E; if A is 0, 0 to A + 1 and no jump
abbrev pub jffo_of : Inputs → Effect
jffo_of given = effect None None (Some (zeros_ahead given.ac)) (jump_if (not (given.ac % 2 ^ 36 == 0)) given.e given.status)
