use Rattle.logic.proofs.BooleanLaws.{boolean_law}
use Rattle.logic.proofs.booleans.boolean.Goals as goal
use Rattle.logic.specs.Boolean.{boolean_of}
use Rattle.std.proofs.Common.{◌≡◌, ◌-◌, ◌%◌, ◌^◌, arith, rules}

pub returns-in_default-clause-by_table : goal.returns-in_default-clause-by_table
unfolding boolean_of
returns-in_default-clause-by_table c =
    let last : c.args.table % 16 ≡ 15 = omega arith in
    boolean_law c.args.table c.args.operand c.args.ac (2 ^ 36 - 1) (search rules)
