use Rattle.arithmetic.proofs.DivisionLaws.{magnitude_most}
use Rattle.arithmetic.proofs.division.magnitude.Goals as goal

pub returns-clause-bound : goal.returns-clause-bound
returns-clause-bound c = magnitude_most c.args.word c.signed.result c.unsigned_abs.result c.signed.ensures c.unsigned_abs.ensures.value
