use Rattle.arithmetic.proofs.FlagLaws.{flags_law, half}
use Rattle.arithmetic.proofs.flags.flags_after.Goals as goal
use Rattle.arithmetic.specs.Flags.{flags_after}
use mathlib.Core.Bool.{xor}
use Rattle.std.proofs.Common.{◌≡◌, rules}

-- In an answer, since the value is found with `xor` unfolded, and the attribute of the function unfolds only what
-- this crate defines.
pub returns : goal.returns
unfolding flags_after xor
returns c =
    let a = c.args in
    let e : c.raise.result ≡ flags_after a.flags a.carry0 a.carry1 = search rules in
    record { value = e; half = half a.flags a.carry0 a.carry1 c.raise.result e; law = flags_law a.flags a.carry0 a.carry1 c.raise.result e }
