-- PUSH and then POP.
use Rattle.std.proofs.Common.{◌≡◌, ℕ, Some, sym, ap, arith}
use Rattle.std.proofs.lemmas.Option.{same_Some}
use Rattle.instructions.specs.Effects.{effect_of}
use Rattle.instructions.specs.Operands.{operand_at}
use Rattle.instructions.specs.Pointers.{pointer_up, pointer_down}
use Rattle.instructions.specs.PushdownLaw.{PushThenPop}
use Rattle.logic.specs.Halves.{right}

pub push_then_pop : PushThenPop
unfolding effect_of operand_at
push_then_pop i j at l e f =
    let back : pointer_down (pointer_up i.ac) ≡ i.ac = omega arith in
    let stored = same_Some _ _ e in
    let address : right j.ac ≡ at = cc (ap (λ (s : ℕ × ℕ). s.0) stored) in
    (ap Some address, ap (λ (s : ℕ × ℕ). Some (j.e, s.1)) (sym stored), cc)
