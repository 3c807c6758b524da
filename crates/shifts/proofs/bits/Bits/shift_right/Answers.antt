use Rattle.std.proofs.Common.{arith}
use Rattle.std.proofs.lemmas.Grind.{common_steps}
use Rattle.shifts.proofs.Powers.{past-right}
use Rattle.shifts.proofs.bits.Bits.shift_right.Goals as goal

pub returns : goal.returns
returns g c = grind (arith, common_steps, past-right c.args.self.now.number c.args.n g.row.WIDTH c.args.self.now.narrow)
