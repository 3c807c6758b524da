-- The user address that each instruction reads as its operand, if it reads one. For most it is E; POP and POPJ read where the
-- right half of A says, and JRA where the left half says.
use Rattle.std.specs.Prelude.{ℕ, Some, None, Option}
use Rattle.instructions.specs.Booleans.{read_by_table}
use Rattle.instructions.specs.HalfWords.{read_by_half_word}
use Rattle.instructions.specs.Moves.{read_by_move_mode}
use Rattle.instructions.specs.Results.{read_by_mode}
use Rattle.instructions.specs.Tests.{read_by_mask}
use Rattle.logic.specs.Halves.{left, right}
use Rattle.operations.specs.declared.operation.Operation.{Operation}
use Rattle.operations.specs.declared.operation.Operation.TheVariants.{MonitorCall, NotInstalled, Nothing, Move, Idiv, Shift, Jffo, Exch, Aobjp, Aobjn, Jrst, Jfcl, Pushj, Push, Pop, Popj, Jsr, Jsp, Jsa, Jra, Add, Sub, Cai, Cam, Jump, Skip, Aoj, Aos, Soj, Sos, Boolean, HalfWord, Test}

unfoldable pub operand_at : Operation → ℕ → ℕ → Option ℕ
operand_at MonitorCall e ac = None
operand_at NotInstalled e ac = None
operand_at Nothing e ac = None
operand_at (Move form mode) e ac = read_by_move_mode mode e
operand_at (Idiv mode) e ac = read_by_mode mode e
operand_at (Shift shift) e ac = None
operand_at Jffo e ac = None
operand_at Exch e ac = Some e
operand_at Aobjp e ac = None
operand_at Aobjn e ac = None
operand_at (Jrst restores) e ac = None
operand_at Jfcl e ac = None
operand_at Pushj e ac = None
operand_at Push e ac = Some e
operand_at Pop e ac = Some (right ac)
operand_at Popj e ac = Some (right ac)
operand_at Jsr e ac = None
operand_at Jsp e ac = None
operand_at Jsa e ac = None
operand_at Jra e ac = Some (left ac)
operand_at (Add mode) e ac = read_by_mode mode e
operand_at (Sub mode) e ac = read_by_mode mode e
operand_at (Cai condition) e ac = None
operand_at (Cam condition) e ac = Some e
operand_at (Jump condition) e ac = None
operand_at (Skip condition) e ac = Some e
operand_at (Aoj condition) e ac = None
operand_at (Aos condition) e ac = Some e
operand_at (Soj condition) e ac = None
operand_at (Sos condition) e ac = Some e
operand_at (Boolean table mode) e ac = read_by_table table mode e
operand_at (HalfWord kind mode) e ac = read_by_half_word kind mode e
operand_at (Test from change when) e ac = read_by_mask from e
