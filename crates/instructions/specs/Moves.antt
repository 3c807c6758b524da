-- The full-word moves, and EXCH.
use Rattle.std.specs.Prelude.{ℕ, Bool, false, cond, Some, None, Option}
use Rattle.words.specs.Signed.{is_negative}
use Rattle.arithmetic.specs.Sums.{add_words}
use Rattle.words.specs.Bits.{complement as complement_of}
use Rattle.instructions.specs.Results.{after_sum, effect, to_a, to_memory, unless_zero}
use Rattle.logic.specs.Halves.{swapped}
use Rattle.operations.specs.declared.effect.Effect.{Effect}
use Rattle.operations.specs.declared.effect.Inputs.{Inputs}
use Rattle.operations.specs.declared.effect.Status.{Status}
use Rattle.operations.specs.declared.operation.Form.{Form}
use Rattle.operations.specs.declared.operation.Form.TheVariants.{Full, Swapped, Negated, Magnitude}
use Rattle.operations.specs.declared.operation.MoveMode.{MoveMode}
use Rattle.operations.specs.declared.operation.MoveMode.TheVariants.{Basic, Immediate, Memory, Own}

-- the word that is moved
abbrev pub source_of : MoveMode → Inputs → ℕ
source_of Basic given = given.operand
source_of Immediate given = given.e
source_of Memory given = given.ac
source_of Own given = given.operand

-- the address that is read for it
abbrev pub read_by_move_mode : MoveMode → ℕ → Option ℕ
read_by_move_mode Basic e = Some e
read_by_move_mode Immediate e = None
read_by_move_mode Memory e = None
read_by_move_mode Own e = Some e

-- where it is moved to
abbrev pub by_move_mode : MoveMode → ℕ → Inputs → Status → Effect
by_move_mode Basic w given s = to_a w s
by_move_mode Immediate w given s = to_a w s
by_move_mode Memory w given s = to_memory given.e w s
by_move_mode Own w given s = effect (Some (given.e, w)) (unless_zero given.field w) None s

-- the negative of a word, whose carries raise flags
abbrev pub negated_word : ℕ × Bool × Bool → Status → ℕ × Status
negated_word r s = (r.0, after_sum r s)

abbrev pub negated : ℕ → Status → ℕ × Status
negated x s = negated_word (add_words (complement_of x) 1 false) s

-- what each form makes of the word, and the status after
abbrev pub formed : Form → ℕ → Status → ℕ × Status
formed Full x s = (x, s)
formed Swapped x s = (swapped x, s)
formed Negated x s = negated x s
formed Magnitude x s = cond (is_negative x) (negated x s) (x, s)

-- MOVE 200, MOVEI 201, MOVEM 202, MOVES 203
-- MOVS 204, MOVSI 205, MOVSM 206, MOVSS 207
-- MOVN 210, MOVNI 211, MOVNM 212, MOVNS 213
-- MOVM 214, MOVMI 215, MOVMM 216, MOVMS 217
abbrev pub move_of : Form → MoveMode → Inputs → Effect
move_of form mode given =
    let r = formed form (source_of mode given) given.status in
    by_move_mode mode r.0 given r.1

-- EXCH 250: A and the word at E change places
abbrev pub exch_of : Inputs → Effect
exch_of given = effect (Some (given.e, given.ac)) (Some given.operand) None given.status
