use Rattle.std.proofs.Common.{◌≡◌, ◌%◌, arith, rules}
use Rattle.arithmetic.proofs.ConditionLaws.{code_law}
use Rattle.arithmetic.proofs.condition.ConditionFromU64.from.Goals as goal
use Rattle.arithmetic.specs.Condition.{condition_of}
use Rattle.arithmetic.specs.declared.condition.Condition.TheVariants.{Greater}

pub returns-in_default-clause-law : goal.returns-in_default-clause-law
unfolding condition_of
returns-in_default-clause-law c =
    let last : c.args.code % 8 ≡ 7 = omega arith in
    code_law c.args.code Greater (search rules)
