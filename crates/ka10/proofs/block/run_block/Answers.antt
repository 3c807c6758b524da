use Rattle.std.proofs.Common.{◌≡◌, ◌+◌, ◌*◌, List, take, sym, ap, ◌∙◌, arith, rules}
use Rattle.ka10.proofs.Blocks.{lowest-kept}
use Rattle.ka10.proofs.block.run_block.Goals as goal
use Rattle.machine.specs.User.{Outside}
use Rattle.packed.specs.Words.{packed_words}

pub returns-clause-lowest : goal.returns-clause-lowest
returns-clause-lowest c =
    let p = c.args.place.now.space in
    let q = c.run.new.place.space in
    let ws = packed_words c.args.bytes.now in
    let vs = packed_words c.run.new.core.bytes.now in
    let before : 1024 * p.base + 16 ≡ 16 = omega arith in
    let after : 1024 * q.base + 16 ≡ 16 = omega (arith, ap (λ (o : Outside _). o.base) c.run.ensures.keeps) in
    let words : take 16 vs ≡ take 16 ws =
    ap (λ n. take n vs) (sym after) ∙ ap (λ (o : Outside _). o.below) c.run.ensures.keeps ∙ ap (λ n. take n (packed_words c.new.result.bytes.now)) before ∙ ap (λ bs. take 16 (packed_words bs)) c.new.ensures.holds in
    let one = p.some in
    lowest-kept _ _ (λ k. search rules) (λ k. search rules) (omega arith) (omega arith) (ap (λ (b : List _). take 16 (packed_words b)) (search rules) ∙ words)
