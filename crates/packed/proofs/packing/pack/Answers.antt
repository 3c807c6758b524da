use Rattle.std.proofs.Common.{◌≡◌, ℕ, ◌+◌, ◌*◌, ◌/◌, ◌%◌, ◌<◌, List, length, get_or, sym, ap, ◌∙◌, arith}
use Rattle.packed.proofs.Places.{length-put_word, unpack-put_word}
use Rattle.packed.proofs.RoundTrips.{pack-unpack}
use Rattle.packed.proofs.packing.pack.Goals as goal
use Rattle.packed.specs.Layout.{pack, unpack, put_word}
use Rattle.packed.specs.Words.{length-unpack}
use Rattle.std.proofs.lemmas.List.{ext_get_or}
use Rattle.std.proofs.lemmas.List.Edits.{fill_by_more}
use Rattle.words.specs.Word.{Narrow, narrow-words}

-- the first k words stand in their places, and so does one more once it is put there
one-more : (ws bs : List ℕ) (k : ℕ) → Narrow ws → k < 2 * (length bs / 9) → ((j : ℕ) → j < k → get_or (unpack bs) j 0 ≡ get_or ws j 0) → (j : ℕ) → j < k + 1 → get_or (unpack (put_word bs k (get_or ws k 0))) j 0 ≡ get_or ws j 0
one-more ws bs k narrow in' so_far j l =
    ap (λ (t : List ℕ). get_or t j 0) (unpack-put_word bs k in' (get_or ws k 0) (narrow k))
    ∙ fill_by_more (λ i. get_or ws i 0) (unpack bs) k 0 (omega (arith, length-unpack bs)) so_far j l

pub loop-i-preserved : goal.loop-i-preserved
loop-i-preserved c =
    let bs = c.loop-i.bytes in
    let cs = c.put_word.new.bytes in
    let k = 2 * c.loop-i.i in
    let ws = c.args.words.now in
    let narrow = narrow-words ws (sym c.all_words.ensures ∙ c.if-not-all_words.false) in
    let same : length cs ≡ length bs = ap length c.put_word.ensures ∙ length-put_word bs k (get_or ws k 0) in
    let first : (j : ℕ) → j < k + 1 → get_or (unpack cs) j 0 ≡ get_or ws j 0 =
    λ j l. ap (λ (t : List ℕ). get_or (unpack t) j 0) c.put_word.ensures ∙ one-more ws bs k narrow (omega arith) c.loop-i.invariant.so_far j l in
    record {
      so_far = λ j l. ap (λ (t : List ℕ). get_or (unpack t) j 0) c.put_word-in-loop-i.ensures ∙ one-more ws cs (k + 1) narrow (omega (arith, same)) first j (omega arith);
      octets = λ j. (c.type_inv.bytes j).fits;
    }

pub returns : goal.returns
returns c =
    let ws = c.args.words.now in
    let bs = c.loop-i.bytes in
    let words = sym c.all_words.ensures ∙ c.if-not-all_words.false in
    let whole : length bs % 9 ≡ 0 = omega arith in
    let all : unpack bs ≡ ws = ext_get_or 0 (unpack bs) ws (omega (arith, length-unpack bs)) (λ j l. c.loop-i.invariant.so_far j (omega (arith, length-unpack bs))) in
    record {
      packs = (c.if-words-ne0.false, c.if-bytes-words.false, words, sym (pack-unpack bs c.loop-i.invariant.octets whole) ∙ ap pack all);
      unpacks_to_the_same = all;
    }
