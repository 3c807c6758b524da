use Rattle.std.proofs.Common.{◌≡◌, ◌+◌, ◌-◌, ◌%◌, ◌^◌, arith}
use Rattle.shifts.proofs.Zeros.{first-stands, of_some, wider}
use Rattle.shifts.proofs.leading.first_one.Goals as goal
use lib.Count.{count_leading_zeros}

-- a u64 has 28 zeros more
counted : (c : goal.After-from) → c.from.result ≡ 28 + count_leading_zeros 36 (c.args.w % 2 ^ 36)
counted c = omega (arith, wider (c.args.w % 2 ^ 36) (omega arith))

pub overflow_sub-result : goal.overflow_sub-result
overflow_sub-result c = omega (arith, counted c)

pub returns-else-word-eq0-clause-value : goal.returns-else-word-eq0-clause-value
returns-else-word-eq0-clause-value c = omega (arith, counted c, of_some c.args.w (omega arith))

pub returns-else-word-eq0-clause-first : goal.returns-else-word-eq0-clause-first
returns-else-word-eq0-clause-first c p = first-stands (c.args.w % 2 ^ 36) (c.from.result - 28) p (omega arith) (omega (arith, counted c))
