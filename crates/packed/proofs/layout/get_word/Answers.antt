use Rattle.std.proofs.Common.{[]}
use Rattle.packed.proofs.Places.{get_or-even, get_or-odd}
use Rattle.packed.proofs.layout.get_word.Goals as goal

pub returns-then-a-eq0 : goal.returns-then-a-eq0
returns-then-a-eq0 c =
    let e = get_or-even c.args.bytes.now c.args.a c.requires [] c.if-a-eq0.true in
    let f = c.as_chunks.ensures.front in
    let g = c.even_word.ensures in
    cc

pub returns-else-a-eq0 : goal.returns-else-a-eq0
returns-else-a-eq0 c =
    let e = get_or-odd c.args.bytes.now c.args.a c.requires [] c.if-a-eq0.false in
    let f = c.as_chunks.ensures.front in
    let g = c.odd_word.ensures in
    cc
