use Rattle.packed.proofs.RoundTrips.{pack-unpack}
use Rattle.packed.proofs.packing.unpack.Goals as goal
use Rattle.packed.specs.Layout.{unpack, pack}
use Rattle.packed.specs.Words.{length-unpack}
use Rattle.std.proofs.lemmas.List.{ext_get_or}
use Rattle.std.proofs.Common.{◌≡◌, ap, ◌∙◌, arith}

pub returns : goal.returns
returns c =
    let bs = c.args.bytes.now in
    let all : c.loop-k.words ≡ unpack bs = ext_get_or 0 c.loop-k.words (unpack bs) (omega (arith, length-unpack bs)) (λ j l. c.loop-k.invariant j (omega arith)) in
    let whole = c.if-bytes-ne0.false in
    record {
      unpacks = (whole, c.if-words-bytes.false, all);
      packs_to_the_same = ap pack all ∙ pack-unpack bs (λ i. (c.type_inv.bytes i).fits) whole;
    }
