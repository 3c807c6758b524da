use Rattle.std.proofs.Common.{◌≡◌, ◌+◌, ◌-◌, ◌*◌, ◌<◌, length, refl, ◌∙◌, arith}
use Rattle.ka10.proofs.Eights.{number_more}
use Rattle.ka10.proofs.numbers.write_numbers.Goals as goal
use Rattle.ka10.specs.Numbers.{encoded}

pub loop-i-init : goal.loop-i-init
unfolding encoded
loop-i-init c = refl

pub loop-i-preserved : goal.loop-i-preserved
unfolding encoded
loop-i-preserved c =
    let i = c.loop-i.i in
    let ns = c.args.given.now in
    let width : 8 * i + 8 - 8 * i ≡ 8 = omega arith in
    let in' : i < length ns = omega arith in
    rw width (number_more i ns c.args.bytes.now c.loop-i.bytes c.copy_from_slice.new.self in' c.loop-i.invariant (c.copy_from_slice.ensures.after ∙ c.to_be_bytes.ensures))
