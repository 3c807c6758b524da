-- Pushdown lists. A has a count in its left half and the address of the last word in its right half; when the count comes to 0 by a
-- push, or to -1 by a pop, the run stops with the instruction done.
use Rattle.std.specs.Prelude.{ℕ, cond, Some, None, Option, ◌==◌}
use Rattle.instructions.specs.Pointers.{pointer_down, pointer_up}
use Rattle.instructions.specs.Results.{jumped}
use Rattle.instructions.specs.Subroutines.{called, pc_word}
use Rattle.logic.specs.Halves.{left, right}
use Rattle.operations.specs.declared.effect.Effect.{Effect}
use Rattle.operations.specs.declared.effect.Inputs.{Inputs}
use Rattle.operations.specs.declared.effect.Status.{Status}
use Rattle.stops.specs.declared.stop.Stop.{Stop}
use Rattle.stops.specs.declared.stop.Stop.TheVariants.{PushdownOverflow}

-- the stop where the count of a pointer has come to its end
abbrev pub stop_at : ℕ → ℕ → Option Stop
stop_at end pointer = cond (left pointer == end) (Some PushdownOverflow) None

-- the pointer, already moved, goes to A, and the run stops if its count has come to its end
abbrev pub pointed : ℕ → Option (ℕ × ℕ) → ℕ → Status → Effect
pointed end m pointer s = record { store = m; a = Some pointer; a1 = None; status = s; stop = stop_at end pointer }

-- the word goes to where the pointer, already moved up, says
abbrev pub pushed : ℕ → ℕ → Status → Effect
pushed pointer w s = pointed 0 (Some (right pointer, w)) pointer s

-- the pointer, already moved down, goes to A
abbrev pub popped : Option (ℕ × ℕ) → ℕ → Status → Effect
popped m pointer s = pointed 0o777777 m pointer s

-- PUSHJ 260: the PC word onto the list, and on at E
abbrev pub pushj_of : Inputs → Effect
pushj_of given = pushed (pointer_up given.ac) (pc_word given.status) (called given.e given.status)

-- PUSH 261: the word at E onto the list
abbrev pub push_of : Inputs → Effect
push_of given = pushed (pointer_up given.ac) given.operand given.status

-- POP 262: the last word of the list to E
abbrev pub pop_of : Inputs → Effect
pop_of given = popped (Some (given.e, given.operand)) (pointer_down given.ac) given.status

-- POPJ 263: on at the right half of the last word of the list
abbrev pub popj_of : Inputs → Effect
popj_of given = popped None (pointer_down given.ac) (jumped (right given.operand) given.status)
