use Rattle.instructions.proofs.results.cleared.Goals as goal
use Rattle.std.proofs.Common.{arith}
use Rattle.std.proofs.lemmas.Nat.{and-not, and_comm}

-- An answer and no `using(..)` on the function: `and-not` wants the width, 64, which the attribute cannot give.
pub returns : goal.returns
returns c = omega (arith, and-not 64, and_comm)
