use Rattle.std.proofs.Common.{◌∙◌, sym, arith}
use Rattle.arithmetic.proofs.SignedLaws.{signed_below, signed_above}
use Rattle.arithmetic.proofs.signed.signed.Goals as goal
use borrow.Author.Differences.{ints}

pub returns-then-is_negative : goal.returns-then-is_negative
returns-then-is_negative c = omega (arith, ints) ∙ sym (signed_below c.args.word (sym c.is_negative.ensures ∙ c.if-is_negative.true))

pub returns-else-is_negative : goal.returns-else-is_negative
returns-else-is_negative c = omega (arith, ints) ∙ sym (signed_above c.args.word (sym c.is_negative.ensures ∙ c.if-is_negative.false))
