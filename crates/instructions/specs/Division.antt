-- IDIV.
use Rattle.std.specs.Prelude.{Some, None, Option, bit_or}
use Rattle.arithmetic.specs.Division.{division_of}
use Rattle.arithmetic.specs.declared.division.Division.{Division}
use Rattle.instructions.specs.Results.{effect, flagged, operand_of, wordless}
use Rattle.operations.specs.declared.effect.Effect.{Effect}
use Rattle.operations.specs.declared.effect.Inputs.{Inputs}
use Rattle.operations.specs.declared.operation.Mode.{Mode}
use Rattle.operations.specs.declared.operation.Mode.TheVariants.{Basic, Immediate, Memory, Both}

-- the quotient to where the mode puts it, and the remainder to A + 1 wherever the quotient goes to A
abbrev pub quotient_to : Mode → Division → Inputs → Effect
quotient_to Basic d given = effect None (Some d.quotient) (Some d.remainder) given.status
quotient_to Immediate d given = effect None (Some d.quotient) (Some d.remainder) given.status
quotient_to Memory d given = effect (Some (given.e, d.quotient)) None None given.status
quotient_to Both d given = effect (Some (given.e, d.quotient)) (Some d.quotient) (Some d.remainder) given.status

-- where nothing is divided, Overflow 400000 and No Divide 000040 come on, and no word changes
abbrev pub divided_to : Mode → Option Division → Inputs → Effect
divided_to mode None given = wordless (flagged (bit_or given.status.flags 0o400040) given.status)
divided_to mode (Some d) given = quotient_to mode d given

-- IDIV 230, IDIVI 231, IDIVM 232, IDIVB 233: A divided by the operand
abbrev pub idiv_of : Mode → Inputs → Effect
idiv_of mode given = divided_to mode (division_of given.ac (operand_of mode given)) given
