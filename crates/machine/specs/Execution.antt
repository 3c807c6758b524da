-- An executed word: what it does to the machine.
use Rattle.std.specs.Prelude.{ℕ, zero, suc, ◌+◌, ◌*◌, ◌/◌, ◌%◌, ◌^◌, List, Some, None, Ok, Err, Option, Result, slice_index, slice_set}
use Rattle.operations.specs.Fields.{accumulator}
use Rattle.logic.specs.Halves.{left, right}
use Rattle.instructions.specs.Effects.{effect_of}
use Rattle.instructions.specs.Operands.{operand_at}
use Rattle.operations.specs.Decode.{decoded}
use Rattle.operations.specs.declared.effect.Effect.{Effect}
use Rattle.operations.specs.declared.effect.Inputs.{Inputs}
use Rattle.operations.specs.declared.operation.Instruction.{Instruction}
use Rattle.operations.specs.declared.operation.Instruction.TheVariants.{UserCall, Execute, BlockTransfer, Ordinary}
use Rattle.operations.specs.declared.operation.Operation.{Operation}
use Rattle.machine.specs.Address.{effective}
use Rattle.machine.specs.Endings.{Ended, ended, onward}
use Rattle.machine.specs.Machine.{Machine, machine, with_word}
use Rattle.machine.specs.Transfer.{transferred, words_moved}
use Rattle.machine.specs.User.{fetched, stored}
use Rattle.machine.specs.declared.located.Located.{Located}
use Rattle.machine.specs.declared.next.Next.{Next}
use Rattle.machine.specs.declared.next.Next.TheVariants.{Done, At}
use Rattle.stops.specs.declared.stop.Stop.{Stop}
use Rattle.stops.specs.declared.stop.Stop.TheVariants.{ExecutedWords}

-- the operand, read where there is one to read
abbrev pub operand_from : Option ℕ → List ℕ → Result ℕ Stop
operand_from None u = Ok 0
operand_from (Some a) u = fetched u a

-- a new word of accumulator k, if there is one
abbrev pub setting : List ℕ → ℕ → Option ℕ → List ℕ
setting u k None = u
setting u k (Some w) = slice_set u k w

-- a word to store, if there is one
abbrev pub storable : List ℕ → Option (ℕ × ℕ) → Result (Unit {0}) Stop
storable u None = Ok tt
storable u (Some p) = stored u p.0

abbrev pub storing : List ℕ → Option (ℕ × ℕ) → List ℕ
storing u None = u
storing u (Some p) = slice_set u p.0 p.1

-- the user words after an effect: memory first, A next, and last A + 1, where 15 is followed by 0
abbrev pub written : List ℕ → ℕ → Effect → List ℕ
written u a f = setting (setting (storing u f.store) a f.a) ((a + 1) % 16) f.a1

-- an effect: the store is tried, and nothing is done if it is not legal
unfoldable pub applied : Machine → ℕ → Effect → Ended Next
applied m a f = onward (storable m.user f.store) m (λ _. ended (machine (written m.user a f) f.status) (Ok (Done f.stop)))

-- the call that a word makes: its bits 0–12, and the effective address
abbrev pub call_word : ℕ → ℕ → ℕ
call_word w e = w / 2 ^ 23 % 2 ^ 13 * 2 ^ 23 + e % 2 ^ 18

-- the word of the accumulator that w names
abbrev pub accumulator_word : Machine → ℕ → ℕ
accumulator_word m w = slice_index m.user (accumulator w)

-- what an instruction is given
abbrev pub inputs : Machine → ℕ → Located → ℕ → Inputs
inputs m w l x =
    record {
      field = accumulator w;
      ac = accumulator_word m w;
      next = slice_index m.user ((accumulator w + 1) % 16);
      e = l.address;
      operand = x;
      flag_word = l.flag_word;
      call = call_word w l.address;
      status = m.status;
    }

-- an ordinary instruction: its operand is read, its effect worked out and carried out
unfoldable pub performed : Operation → Machine → ℕ → Located → Ended Next
performed op m w l =
    onward (operand_from (operand_at op l.address (accumulator_word m w)) m.user) m
    (λ x. applied m (accumulator w) (effect_of op (inputs m w l x)))

-- a block transfer that ended so
abbrev pub moved : Ended (Unit {0}) → Ended Next
moved x = onward x.answer x.after (λ _. ended x.after (Ok (Done None)))

-- a block transfer from the address in the left half of ac on to that in its right half on
abbrev pub transfer_from : ℕ → ℕ → Machine → Ended (Unit {0})
transfer_from ac e = transferred (words_moved (right ac) e) (left ac) (right ac)

-- how a word is executed once its address is known: a call of the user's own stores itself at 40 and the word at 41
-- follows; XCT has the word at its address follow
unfoldable pub carried_out : Instruction → Machine → ℕ → Located → Ended Next
carried_out UserCall m w l = onward (stored m.user 0o40) m (λ _. ended (with_word m 0o40 (call_word w l.address)) (Ok (At 0o41)))
carried_out Execute m w l = ended m (Ok (At l.address))
carried_out BlockTransfer m w l = moved (transfer_from (accumulator_word m w) l.address m)
carried_out (Ordinary op) m w l = performed op m w l

-- one executed word
unfoldable pub one_word : Machine → ℕ → Ended Next
one_word m w = onward (effective 64 None m.user w) m (carried_out (decoded w) m w)

-- goes on with the word at the next address, if one follows
abbrev pub followed_by : Result Next Stop → Machine → (Machine → ℕ → Ended (Option Stop)) → Ended (Option Stop)
followed_by (Ok (Done t)) m go = ended m (Ok t)
followed_by (Ok (At a)) m go = go m a
followed_by (Err t) m go = ended m (Err t)

abbrev pub followed : Ended Next → (Machine → ℕ → Ended (Option Stop)) → Ended (Option Stop)
followed x go = followed_by x.answer x.after go

-- an executed word with all that follow it, while n more may be executed
unfoldable pub executed : ℕ → Machine → ℕ → Ended (Option Stop)
executed zero m w = followed (one_word m w) (λ x a. ended x (Err ExecutedWords))
executed (suc n) m w = followed (one_word m w) (λ x a. onward (fetched x.user a) x (executed n x))
