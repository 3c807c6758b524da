-- What is pushed comes back: a POP with the pointer that a PUSH left reads the address at which the PUSH stored, and with
-- the word that stands there it gives back the word and the pointer.
use Rattle.std.specs.Prelude.{◌≡◌, ℕ, ◌^◌, ◌<◌, Some}
use Rattle.instructions.specs.Effects.{effect_of}
use Rattle.instructions.specs.Operands.{operand_at}
use Rattle.operations.specs.declared.effect.Inputs.{Inputs}
use Rattle.operations.specs.declared.operation.Operation.TheVariants.{Pop, Push}

abbrev pub PushThenPop : Type 0
PushThenPop =
    (i j : Inputs) (at : ℕ) → i.ac < 2 ^ 36
    → (effect_of Push i).store ≡ Some (at, j.operand)
    → (effect_of Push i).a ≡ Some j.ac
    → (operand_at Pop j.e j.ac ≡ Some at) × ((effect_of Pop j).store ≡ Some (j.e, i.operand)) × ((effect_of Pop j).a ≡ Some i.ac)
