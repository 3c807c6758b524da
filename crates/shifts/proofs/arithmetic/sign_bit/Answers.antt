use Rattle.std.proofs.Common.{◌∙◌, arith}
use Rattle.std.proofs.lemmas.Nat.Bits.{and_high}
use Rattle.shifts.proofs.arithmetic.sign_bit.Goals as goal

pub returns : goal.returns
returns c = and_high c.args.w 1 35 ∙ omega arith
