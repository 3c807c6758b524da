use Rattle.std.proofs.Common.{◌+◌, ◌-◌, ◌*◌, drop, arith}
use Rattle.ka10.proofs.Lifting.{block_within, ran-in-core}
use Rattle.ka10.proofs.program.run_in_core.Goals as goal
use Rattle.std.proofs.lemmas.List.{length-drop, length-take}

pub returns : goal.returns
returns c =
    let core = c.args.core.now in
    let start = 4608 * c.args.request.now.base in
    let width = start + 4608 * c.args.request.now.blocks - start in
    let inside = block_within core c.args.request.now.base c.args.request.now.blocks c.requires.block.1 in
    ran-in-core core c.run_program.new.block c.args.request.now.base c.args.request.now.blocks c.requires.block.1 c.requires.block.0
    (omega (arith, inside, length-take width (drop start core), length-drop start core, c.run_program.auto.block))
    c.args.given.now c.args.request.now.steps c.run_program.result.«record» _ width (omega arith) c.run_program.ensures
