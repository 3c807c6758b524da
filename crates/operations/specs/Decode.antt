-- Which instruction a word is, by the octal digits of its code.
use Rattle.std.specs.Prelude.{ℕ, ◌+◌, ◌*◌, ◌/◌, ◌%◌, cond, ◌==◌}
use Rattle.arithmetic.specs.Condition.{condition_of}
use Rattle.logic.specs.Codes.{pick}
use Rattle.logic.specs.HalfMoves.{half_move_of}
use Rattle.logic.specs.Masks.{change_of, skip_when_of}
use Rattle.operations.specs.Fields.{opcode, accumulator}
use Rattle.operations.specs.declared.operation.Form.{Form}
use Rattle.operations.specs.declared.operation.Form.TheVariants as form
use Rattle.operations.specs.declared.operation.Instruction.{Instruction}
use Rattle.operations.specs.declared.operation.Instruction.TheVariants.{UserCall, Execute, BlockTransfer, Ordinary}
use Rattle.operations.specs.declared.operation.MaskFrom.{MaskFrom}
use Rattle.operations.specs.declared.operation.MaskFrom.TheVariants as mask
use Rattle.operations.specs.declared.operation.Mode.{Mode}
use Rattle.operations.specs.declared.operation.Mode.TheVariants as mode
use Rattle.operations.specs.declared.operation.MoveMode.{MoveMode}
use Rattle.operations.specs.declared.operation.MoveMode.TheVariants as move
use Rattle.operations.specs.declared.operation.Operation.{Operation}
use Rattle.operations.specs.declared.operation.Operation.TheVariants.{MonitorCall, NotInstalled, Nothing, Move, Idiv, Shift, Jffo, Exch, Aobjp, Aobjn, Jrst, Jfcl, Pushj, Push, Pop, Popj, Jsr, Jsp, Jsa, Jra, Add, Sub, Cai, Cam, Jump, Skip, Aoj, Aos, Soj, Sos, Boolean, HalfWord, Test}
use Rattle.operations.specs.declared.operation.Shift.TheVariants.{Ash, Rot, Lsh, Ashc, Rotc, Lshc}

-- a choice by an octal digit
abbrev pub pick8 : {A : Type 0} → ℕ → A → A → A → A → A → A → A → A → A
pick8 n a b c d e f g h = cond (n == 0) a (cond (n == 1) b (cond (n == 2) c (cond (n == 3) d (cond (n == 4) e (cond (n == 5) f (cond (n == 6) g h))))))

-- the last two bits of a code: ADD, ADDI, ADDM, ADDB
abbrev pub mode_of : ℕ → Mode
mode_of code = pick (code % 4) mode.Basic mode.Immediate mode.Memory mode.Both

-- the last two bits of a move's code: MOVE, MOVEI, MOVEM, MOVES
abbrev pub move_mode_of : ℕ → MoveMode
move_mode_of code = pick (code % 4) move.Basic move.Immediate move.Memory move.Own

-- 200 MOVE, 204 MOVS, 210 MOVN, 214 MOVM
abbrev pub form_of : ℕ → Form
form_of code = pick (code / 4 % 4) form.Full form.Swapped form.Negated form.Magnitude

-- 600 TRN, 601 TLN, 610 TDN, 611 TSN
abbrev pub mask_from_of : ℕ → MaskFrom
mask_from_of code = pick (code / 8 % 2 * 2 + code % 2) mask.Right mask.Left mask.Direct mask.Swapped

-- 000–077
abbrev pub call_of : ℕ → Instruction
call_of code =
    pick8 (code / 8 % 8)
    (cond (code % 8 == 0) (Ordinary MonitorCall) UserCall)  -- 000; 001–007
    UserCall  -- 010–017
    UserCall  -- 020–027
    UserCall  -- 030–037
    (Ordinary MonitorCall)  -- 040–047
    (Ordinary MonitorCall)  -- 050–057
    (Ordinary MonitorCall)  -- 060–067
    (Ordinary MonitorCall)  -- 070–077

-- 240–247
abbrev pub shift_of : ℕ → Operation
shift_of code =
    pick8 (code % 8)
    (Shift Ash)  -- 240 ASH
    (Shift Rot)  -- 241 ROT
    (Shift Lsh)  -- 242 LSH
    Jffo  -- 243 JFFO
    (Shift Ashc)  -- 244 ASHC
    (Shift Rotc)  -- 245 ROTC
    (Shift Lshc)  -- 246 LSHC
    Nothing  -- 247

-- 254 JRST by its accumulator field: 8 and 4 ask for what a user program may not do, 2 for the flags
abbrev pub jrst_of : ℕ → Operation
jrst_of field = cond (field / 4 % 4 == 0) (Jrst (field / 2 % 2 == 1)) MonitorCall

-- 250–257
abbrev pub exchange_of : ℕ → ℕ → Instruction
exchange_of code field =
    pick8 (code % 8)
    (Ordinary Exch)  -- 250 EXCH
    BlockTransfer  -- 251 BLT
    (Ordinary Aobjp)  -- 252 AOBJP
    (Ordinary Aobjn)  -- 253 AOBJN
    (Ordinary (jrst_of field))  -- 254 JRST
    (Ordinary Jfcl)  -- 255 JFCL
    Execute  -- 256 XCT
    (Ordinary Nothing)  -- 257

-- 260–267
abbrev pub stack_of : ℕ → Operation
stack_of code =
    pick8 (code % 8)
    Pushj  -- 260 PUSHJ
    Push  -- 261 PUSH
    Pop  -- 262 POP
    Popj  -- 263 POPJ
    Jsr  -- 264 JSR
    Jsp  -- 265 JSP
    Jsa  -- 266 JSA
    Jra  -- 267 JRA

-- 200–217
abbrev pub move_of : ℕ → Operation
move_of code = Move (form_of code) (move_mode_of code)

-- 200–277
abbrev pub full_word_of : ℕ → ℕ → Instruction
full_word_of code field =
    pick8 (code / 8 % 8)
    (Ordinary (move_of code))  -- 200–203 MOVE, 204–207 MOVS
    (Ordinary (move_of code))  -- 210–213 MOVN, 214–217 MOVM
    (Ordinary NotInstalled)  -- 220–227
    (Ordinary (cond (code / 4 % 2 == 0) (Idiv (mode_of code)) NotInstalled))  -- 230–233 IDIV; 234–237
    (Ordinary (shift_of code))  -- 240–247
    (exchange_of code field)  -- 250–257
    (Ordinary (stack_of code))  -- 260–267
    (Ordinary (cond (code / 4 % 2 == 0) (Add (mode_of code)) (Sub (mode_of code))))  -- 270–273 ADD, 274–277 SUB

-- 300–377
abbrev pub comparison_of : ℕ → Operation
comparison_of code =
    pick8 (code / 8 % 8)
    (Cai (condition_of code))  -- 300–307 CAI
    (Cam (condition_of code))  -- 310–317 CAM
    (Jump (condition_of code))  -- 320–327 JUMP
    (Skip (condition_of code))  -- 330–337 SKIP
    (Aoj (condition_of code))  -- 340–347 AOJ
    (Aos (condition_of code))  -- 350–357 AOS
    (Soj (condition_of code))  -- 360–367 SOJ
    (Sos (condition_of code))  -- 370–377 SOS

-- the instruction with this code and this accumulator field
abbrev pub instruction_of : ℕ → ℕ → Instruction
instruction_of code field =
    pick8 (code / 64 % 8)
    (call_of code)  -- 000–077 the calls
    (Ordinary NotInstalled)  -- 100–177
    (full_word_of code field)  -- 200–277
    (Ordinary (comparison_of code))  -- 300–377
    (Ordinary (Boolean (code / 4 % 16) (mode_of code)))  -- 400–477 SETZ to SETO
    (Ordinary (HalfWord (half_move_of code) (move_mode_of code)))  -- 500–577 HLL to HLRES
    (Ordinary (Test (mask_from_of code) (change_of code) (skip_when_of code)))  -- 600–677 TRN to TSON
    (Ordinary MonitorCall)  -- 700–777 input and output

unfoldable pub decoded : ℕ → Instruction
decoded word = instruction_of (opcode word) (accumulator word)
