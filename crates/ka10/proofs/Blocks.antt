-- The bytes of a block, and the words that they hold.
use Rattle.std.proofs.Common.{◌≡◌, ℕ, ◌<◌, ◌≤◌, List, length, take, sym, ap, ◌∙◌, ⊎_elim, arith}
use Rattle.memory.specs.Cut.{cut}
use Rattle.packed.proofs.Parts.{unpack-take}
use Rattle.packed.proofs.RoundTrips.{Octets, pack-unpack}
use Rattle.packed.specs.Layout.{pack, unpack}
use Rattle.packed.specs.Words.{packed_words}
use Rattle.std.proofs.lemmas.List.{get_or-take, get_or_past, length-take, length-take-le, take-take}
use Rattle.std.proofs.lemmas.Bool.{cases_lt}

octets-take : (n : ℕ) (bs : List ℕ) → Octets bs → Octets (take n bs)
octets-take n bs o k =
    ⊎_elim
    (λ (l : k < n). omega (arith, get_or-take n bs k 0 l, o k))
    (λ (l : n ≤ k). omega (arith, get_or_past (take n bs) k 0 (omega (arith, length-take n bs))))
    (cases_lt k n)

-- eight nines of bytes that hold the same sixteen words are the same
nines-back : (bs : List ℕ) → Octets bs → 72 ≤ length bs → take 72 bs ≡ pack (take 16 (packed_words bs))
unfolding cut
nines-back bs o l =
    let words : unpack (take 72 bs) ≡ take 16 (packed_words bs) = unpack-take bs 8 ∙ sym (take-take 16 262144 (unpack bs) (omega arith)) in
    sym (pack-unpack (take 72 bs) (octets-take 72 bs o) (omega (arith, length-take-le 72 bs l))) ∙ ap pack words

pub lowest-kept : (bs cs : List ℕ) → Octets bs → Octets cs → 72 ≤ length bs → 72 ≤ length cs → take 16 (packed_words cs) ≡ take 16 (packed_words bs) → take 72 cs ≡ take 72 bs
lowest-kept bs cs o p l m e = nines-back cs p m ∙ ap pack e ∙ sym (nines-back bs o l)
