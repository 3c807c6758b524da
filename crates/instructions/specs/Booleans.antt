-- The Boolean functions.
use Rattle.std.specs.Prelude.{ℕ, ◌%◌, Bool, cond, ◌||◌, None, Option, ◌==◌}
use Rattle.instructions.specs.Results.{by_mode, operand_of, read_by_mode}
use Rattle.logic.specs.Boolean.{boolean_of}
use Rattle.operations.specs.declared.effect.Effect.{Effect}
use Rattle.operations.specs.declared.effect.Inputs.{Inputs}
use Rattle.operations.specs.declared.operation.Mode.{Mode}

-- SETZ 400 to SETOB 477: the code's bits 3 to 6 are the truth table, its last two bits the mode
abbrev pub boolean_effect_of : ℕ → Mode → Inputs → Effect
boolean_effect_of table mode given = by_mode mode (boolean_of table (operand_of mode given) given.ac) given given.status

-- SETZ, SETA, SETCA and SETO do not look at the operand
abbrev pub without_operand : ℕ → Bool
without_operand table = table == 0 || (table == 5 || (table == 10 || table == 15))

-- the address that is read
abbrev pub read_by_table : ℕ → Mode → ℕ → Option ℕ
read_by_table table mode e = cond (without_operand (table % 16)) None (read_by_mode mode e)
