-- The comparisons, and the counts that end in one. The last three bits of the code are the condition: never 0, less L, equal E,
-- less or equal LE, always A, greater or equal GE, not equal N, greater G.
use Rattle.std.specs.Prelude.{ℕ, ◌-◌, ◌^◌, Bool, false, Some, None}
use Rattle.arithmetic.specs.Condition.{holds_of}
use Rattle.arithmetic.specs.Sums.{add_words}
use Rattle.arithmetic.specs.declared.condition.Condition.{Condition}
use Rattle.instructions.specs.Results.{after_sum, effect, jump_if, skip_if, to_a, unless_zero, wordless}
use Rattle.operations.specs.declared.effect.Effect.{Effect}
use Rattle.operations.specs.declared.effect.Inputs.{Inputs}

-- CAI 300 to CAIG 307: skips by A and the word 0,,E
abbrev pub cai_of : Condition → Inputs → Effect
cai_of condition given = wordless (skip_if (holds_of condition given.ac given.e) given.status)

-- CAM 310 to CAMG 317: skips by A and the word at E
abbrev pub cam_of : Condition → Inputs → Effect
cam_of condition given = wordless (skip_if (holds_of condition given.ac given.operand) given.status)

-- JUMP 320 to JUMPG 327: goes on at E by A and 0
abbrev pub jump_of : Condition → Inputs → Effect
jump_of condition given = wordless (jump_if (holds_of condition given.ac 0) given.e given.status)

-- SKIP 330 to SKIPG 337: skips by the word at E and 0; the word goes to A too, unless that is accumulator 0
abbrev pub skip_of : Condition → Inputs → Effect
skip_of condition given = effect None (unless_zero given.field given.operand) None (skip_if (holds_of condition given.operand 0) given.status)

-- a count of A, which goes on at E by the result and 0
abbrev pub count_and_jump : Condition → ℕ × Bool × Bool → Inputs → Effect
count_and_jump condition r given = to_a r.0 (jump_if (holds_of condition r.0 0) given.e (after_sum r given.status))

-- AOJ 340 to AOJG 347: A plus 1
abbrev pub aoj_of : Condition → Inputs → Effect
aoj_of condition given = count_and_jump condition (add_words given.ac 1 false) given

-- SOJ 360 to SOJG 367: A less 1
abbrev pub soj_of : Condition → Inputs → Effect
soj_of condition given = count_and_jump condition (add_words given.ac (2 ^ 36 - 1) false) given

-- a count of the word at E, which skips by the result and 0; the result goes to A too, unless that is accumulator 0
abbrev pub count_and_skip : Condition → ℕ × Bool × Bool → Inputs → Effect
count_and_skip condition r given =
    effect (Some (given.e, r.0)) (unless_zero given.field r.0) None (skip_if (holds_of condition r.0 0) (after_sum r given.status))

-- AOS 350 to AOSG 357: the word at E plus 1
abbrev pub aos_of : Condition → Inputs → Effect
aos_of condition given = count_and_skip condition (add_words given.operand 1 false) given

-- SOS 370 to SOSG 377: the word at E less 1
abbrev pub sos_of : Condition → Inputs → Effect
sos_of condition given = count_and_skip condition (add_words given.operand (2 ^ 36 - 1) false) given
