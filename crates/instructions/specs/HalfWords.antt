-- The half-word moves.
use Rattle.std.specs.Prelude.{ℕ, Some, None, Option}
use Rattle.instructions.specs.Results.{effect, to_a, to_memory, unless_zero}
use Rattle.logic.specs.HalfMoves.{moved_half}
use Rattle.logic.specs.declared.half_words.HalfMove.{HalfMove}
use Rattle.logic.specs.declared.half_words.Other.{Other}
use Rattle.logic.specs.declared.half_words.Other.TheVariants.{Extended, Kept, Ones, Zeros}
use Rattle.operations.specs.declared.effect.Effect.{Effect}
use Rattle.operations.specs.declared.effect.Inputs.{Inputs}
use Rattle.operations.specs.declared.operation.MoveMode.{MoveMode}
use Rattle.operations.specs.declared.operation.MoveMode.TheVariants.{Basic, Immediate, Memory, Own}

-- HLL 500 to HLRES 577. Each destination keeps its own other half where the move keeps one.
abbrev pub half_word_of : HalfMove → MoveMode → Inputs → Effect
half_word_of kind Basic given = to_a (moved_half kind given.operand given.ac) given.status
half_word_of kind Immediate given = to_a (moved_half kind given.e given.ac) given.status
half_word_of kind Memory given = to_memory given.e (moved_half kind given.ac given.operand) given.status
half_word_of kind Own given =
    effect (Some (given.e, moved_half kind given.operand given.operand))
    (unless_zero given.field (moved_half kind given.operand given.ac)) None given.status

-- a move to memory reads the word at E only to keep its other half
abbrev pub read_to_keep : Other → ℕ → Option ℕ
read_to_keep Kept e = Some e
read_to_keep Zeros e = None
read_to_keep Ones e = None
read_to_keep Extended e = None

-- the address that is read
abbrev pub read_by_half_word : HalfMove → MoveMode → ℕ → Option ℕ
read_by_half_word kind Basic e = Some e
read_by_half_word kind Immediate e = None
read_by_half_word kind Memory e = read_to_keep kind.other e
read_by_half_word kind Own e = Some e
