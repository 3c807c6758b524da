use Rattle.arithmetic.proofs.DivisionLaws.{division_law}
use Rattle.arithmetic.proofs.division.divide.Goals as goal
use Rattle.arithmetic.specs.Division.{division_of}
use Rattle.arithmetic.specs.declared.division.Division.{Division}
use mathlib.Core.Bool.{xor}
use Rattle.std.proofs.Common.{◌≡◌, Option, Some, None, rules}

pub returns-then-no_divide : goal.returns-then-no_divide
unfolding division_of
returns-then-no_divide c =
    let e : None ≡ division_of c.args.dividend c.args.divisor = search rules in
    record { value = e; narrow = tt; law = division_law c.args.dividend c.args.divisor None e }

pub returns : goal.returns
unfolding division_of xor
returns c =
    let r : Option Division = Some (record { quotient = c.signed_word.result; remainder = c.signed_word-2.result }) in
    let e : r ≡ division_of c.args.dividend c.args.divisor = search rules in
    record { value = e; narrow = search rules; law = division_law c.args.dividend c.args.divisor r e }
