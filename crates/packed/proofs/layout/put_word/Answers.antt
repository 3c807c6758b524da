use Rattle.std.proofs.Common.{◌+◌, ◌*◌, ◌/◌, ◌%◌, ◌^◌, ap, arith}
use Rattle.packed.proofs.Places.{put-even, put-odd}
use Rattle.packed.proofs.layout.put_word.Goals as goal

pub returns-then-a-eq0 : goal.returns-then-a-eq0
returns-then-a-eq0 c =
    put-even c.args.bytes.now c.args.a c.requires.0 c.args.w _ _ c.to_be_bytes-five.result _ c.requires.1 (omega arith)
    c.copy_from_slice.ensures.after c.to_be_bytes-five.ensures c.if-a-eq0.true (ap (λ s. c.args.w * 16 + s % 16) c.from-shared.ensures)

pub returns-else-a-eq0 : goal.returns-else-a-eq0
returns-else-a-eq0 c =
    put-odd c.args.bytes.now c.args.a c.requires.0 c.args.w _ _ c.to_be_bytes-five-else-a-eq0.result _ c.requires.1 (omega arith)
    c.copy_from_slice-else-a-eq0.ensures.after c.to_be_bytes-five-else-a-eq0.ensures c.if-a-eq0.false (omega arith)
    (ap (λ s. s / 16 * 2 ^ 36 + c.args.w) c.from-shared.ensures)
