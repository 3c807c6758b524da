use Rattle.std.proofs.Common.{arith}
use Rattle.std.proofs.lemmas.Grind.{common_steps}
use Rattle.shifts.proofs.Powers.{cut_shl, past-left}
use Rattle.shifts.proofs.bits.Bits.shift_left.Goals as goal

pub returns : goal.returns
returns g c =
    let m = c.args.self.now.number in
    let n = c.args.n in
    grind (arith, common_steps, cut_shl m n g.row.WIDTH 64, cut_shl m n g.row.WIDTH 128, past-left m n g.row.WIDTH)
