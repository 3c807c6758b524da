-- XCT does what the word at its address does.
use Rattle.std.proofs.Common.{◌≡◌, ℕ, zero, suc, None, Ok, Err, Option, Result, refl, sym, ap, ◌∙◌}
use Rattle.instructions.specs.Operands.{operand_at}
use Rattle.operations.specs.Decode.{decoded}
use Rattle.operations.specs.declared.effect.Effect.{Effect}
use Rattle.operations.specs.declared.operation.Instruction.{Instruction}
use Rattle.operations.specs.declared.operation.Instruction.TheVariants.{UserCall, Execute, BlockTransfer, Ordinary}
use Rattle.operations.specs.declared.operation.Operation.{Operation}
use Rattle.machine.specs.Address.{effective}
use Rattle.machine.specs.Endings.{Ended, ended, onward}
use Rattle.machine.specs.ExecuteLaw.{Final, ExecutesInPlace}
use Rattle.machine.specs.Machine.{Machine}
use Rattle.machine.specs.Execution.{operand_from, storable, accumulator_word, transfer_from, applied, performed, carried_out, one_word, followed, followed_by, executed}
use Rattle.machine.specs.User.{fetched}
use Rattle.machine.specs.declared.located.Located.{Located}
use Rattle.machine.specs.declared.next.Next.{Next}
use Rattle.machine.specs.declared.next.Next.TheVariants.{Done, At}
use Rattle.stops.specs.declared.stop.Stop.{Stop}

-- no word follows
abbrev Ends : Result Next Stop → Type 0
Ends (Ok (Done t)) = Unit {0}
Ends (Ok (At a)) = ⊥
Ends (Err t) = Unit {0}

ends-onward : {A : Type 0} (r : Result A Stop) (m : Machine) (go : A → Ended Next) → ((x : A) → Ends (go x).answer) → Ends (onward r m go).answer
ends-onward (Ok x) m go h = h x
ends-onward (Err t) m go h = tt

ends-applied : (m : Machine) (a : ℕ) (f : Effect) → Ends (applied m a f).answer
unfolding applied
ends-applied m a f = ends-onward (storable m.user f.store) m _ (λ _. tt)

ends-performed : (op : Operation) (m : Machine) (w : ℕ) (l : Located) → Ends (performed op m w l).answer
unfolding performed
ends-performed op m w l = ends-onward (operand_from (operand_at op l.address (accumulator_word m w)) m.user) m _ (λ x. ends-applied m _ _)

ends-carried : (i : Instruction) (m : Machine) (w : ℕ) (l : Located) → Final i → Ends (carried_out i m w l).answer
unfolding carried_out
ends-carried UserCall m w l f = elim f [ ]
ends-carried Execute m w l f = elim f [ ]
ends-carried BlockTransfer m w l f =
    let x = transfer_from (accumulator_word m w) l.address m in ends-onward x.answer x.after _ (λ _. tt)
ends-carried (Ordinary op) m w l f = ends-performed op m w l

ends-one : (m : Machine) (w : ℕ) → Final (decoded w) → Ends (one_word m w).answer
unfolding one_word
ends-one m w f = ends-onward (effective 64 None m.user w) m _ (λ l. ends-carried (decoded w) m w l f)

-- then it does not matter what would follow
same-followed : (r : Result Next Stop) (m : Machine) (go on : Machine → ℕ → Ended (Option Stop)) → Ends r → followed_by r m go ≡ followed_by r m on
same-followed (Ok (Done t)) m go on e = refl
same-followed (Ok (At a)) m go on e = elim e [ ]
same-followed (Err t) m go on e = refl

executed-alone : (n : ℕ) (m : Machine) (w : ℕ) → Final (decoded w) → executed n m w ≡ executed 0 m w
unfolding executed
executed-alone zero m w f = refl
executed-alone (suc n) m w f = same-followed (one_word m w).answer (one_word m w).after _ _ (ends-one m w f)

xct-one : (m : Machine) (w : ℕ) (l : Located) → decoded w ≡ Execute → effective 64 None m.user w ≡ Ok l → one_word m w ≡ ended m (Ok (At l.address))
unfolding one_word carried_out
xct-one m w l d e = rw (e, d)

pub executes-in-place : ExecutesInPlace
unfolding executed
executes-in-place n k m w v l d e f z =
    ap (λ (x : Ended Next). followed x (λ y a. onward (fetched y.user a) y (executed n y))) (xct-one m w l d e)
    ∙ ap (λ (r : Result ℕ Stop). onward r m (executed n m)) f
    ∙ executed-alone n m v z
    ∙ sym (executed-alone k m v z)
