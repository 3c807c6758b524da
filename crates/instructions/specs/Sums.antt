-- ADD and SUB.
use Rattle.arithmetic.specs.Sums.{add_words}
use Rattle.words.specs.Bits.{complement as complement_of}
use Rattle.instructions.specs.Results.{after_sum, by_mode, operand_of}
use Rattle.operations.specs.declared.effect.Effect.{Effect}
use Rattle.operations.specs.declared.effect.Inputs.{Inputs}
use Rattle.operations.specs.declared.operation.Mode.{Mode}
use Rattle.std.specs.Prelude.{ℕ, Bool, true, false}

-- a sum to where its mode puts it; its carries raise flags
abbrev pub sum_to : Mode → ℕ × Bool × Bool → Inputs → Effect
sum_to mode r given = by_mode mode r.0 given (after_sum r given.status)

-- ADD 270, ADDI 271, ADDM 272, ADDB 273: A plus the operand
abbrev pub add_of : Mode → Inputs → Effect
add_of mode given = sum_to mode (add_words given.ac (operand_of mode given) false) given

-- SUB 274, SUBI 275, SUBM 276, SUBB 277: A less the operand
abbrev pub sub_of : Mode → Inputs → Effect
sub_of mode given = sum_to mode (add_words given.ac (complement_of (operand_of mode given)) true) given
