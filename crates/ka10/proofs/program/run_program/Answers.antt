use Rattle.std.proofs.Common.{◌≡◌, ◌*◌, length, refl, ap, arith, rules}
use Rattle.ka10.proofs.Order.{good-parts}
use Rattle.ka10.proofs.Runs.{run-within, ran-in-block}
use Rattle.ka10.proofs.program.run_program.Goals as goal
use Rattle.ka10.specs.Calls.{machine_of, outcome}
use Rattle.machine.specs.Steps.{Replied}
use Rattle.words.specs.Word.{narrow-words}

pub invariant_of-place : goal.invariant_of-place
invariant_of-place c =
    let p = c.args.given.now in
    record { some = omega arith; near = omega arith; narrow = narrow-words p.accumulators (good-parts p c.requires.call.0).words }

pub record_after-requires : goal.record_after-requires
record_after-requires c =
    let p = c.args.given.now in
    let good = good-parts p c.requires.call.0 in
    let m = machine_of p 0 c.args.blocks c.args.block.now in
    let same = ap (λ (o : Replied). o.steps) c.run_block-reply.ensures.does in
    omega (arith, same, run-within c.args.steps m, good.count, good.allowance)

pub returns : goal.returns
returns c =
    let p = c.args.given.now in
    let blocks = c.args.blocks in
    let d = c.run_block-reply.ensures in
    let done = c.run_block-reply.result in
    let place = c.run_block-reply.new.place in
    let la : length c.run_block-reply.new.bytes ≡ 4608 * c.args.blocks = omega arith in
    ran-in-block p blocks c.args.block.now c.run_block-reply.new.bytes place.space place.status done.steps done.stop (search rules) d.at_the_start d.as_large
    (outcome p 0 blocks c.args.steps c.args.block.now) d.does c.requires.block.0 la c.record_after.result _ c.record_after.ensures refl d.lowest
