-- A part of the bytes, whole nines of them, holds a part of the words.
use Rattle.std.proofs.Common.{◌≡◌, ℕ, zero, suc, ◌+◌, ◌-◌, ◌*◌, ◌<◌, ◌≤◌, List, ◌∷◌, length, take, drop, sym, refl, ap, ◌∙◌, arith}
use Rattle.memory.specs.Cut.{cut, length_cut}
use Rattle.packed.specs.Layout.{even, odd, unpack}
use Rattle.packed.specs.Nines.{by-nines}
use Rattle.packed.specs.Words.{packed_words, unpack-short, length-unpack}
use Rattle.std.proofs.lemmas.List.{length-drop, length-take, nil_from_length, take_all, take-take, drop-take}
use Rattle.std.proofs.Math.Numerals.{unary_clauses}

-- nine bytes further on; `unary_clauses` ends at eight
pub nine : (n : ℕ) → n + 9 ≡ suc (suc (suc (suc (suc (suc (suc (suc (suc n))))))))
nine n = omega arith

abbrev TakesWords : List ℕ → Type 0
TakesWords bs = (n : ℕ) → unpack (take (9 * n) bs) ≡ take (2 * n) (unpack bs)

takes-short : (bs : List ℕ) → length bs < 9 → TakesWords bs
takes-short bs l n =
    unpack-short (take (9 * n) bs) (omega (arith, length-take (9 * n) bs))
    ∙ sym (nil_from_length (take (2 * n) (unpack bs)) (omega (arith, length-take (2 * n) (unpack bs), length-unpack bs)))

takes-more : (a b c d e f g h i : ℕ) (bs : List ℕ) → TakesWords bs → TakesWords (a ∷ b ∷ c ∷ d ∷ e ∷ f ∷ g ∷ h ∷ i ∷ bs)
unfolding unpack
takes-more a b c d e f g h i bs again zero = refl
takes-more a b c d e f g h i bs again (suc n) = simp (nine, unary_clauses) (ap (λ (t : List ℕ). even a b c d e ∷ odd e f g h i ∷ t) (again n))

-- the words of the first n nines are the first 2 n words
pub unpack-take : (bs : List ℕ) → TakesWords bs
unpack-take = by-nines TakesWords takes-short takes-more

abbrev DropsWords : List ℕ → Type 0
DropsWords bs = (n : ℕ) → unpack (drop (9 * n) bs) ≡ drop (2 * n) (unpack bs)

drops-short : (bs : List ℕ) → length bs < 9 → DropsWords bs
drops-short bs l n =
    unpack-short (drop (9 * n) bs) (omega (arith, length-drop (9 * n) bs))
    ∙ sym (nil_from_length (drop (2 * n) (unpack bs)) (omega (arith, length-drop (2 * n) (unpack bs), length-unpack bs)))

drops-more : (a b c d e f g h i : ℕ) (bs : List ℕ) → DropsWords bs → DropsWords (a ∷ b ∷ c ∷ d ∷ e ∷ f ∷ g ∷ h ∷ i ∷ bs)
unfolding unpack
drops-more a b c d e f g h i bs again zero = refl
drops-more a b c d e f g h i bs again (suc n) = simp (nine, unary_clauses) (again n)

-- the words past the first n nines are those past the first 2 n words
pub unpack-drop : (bs : List ℕ) → DropsWords bs
unpack-drop = by-nines DropsWords drops-short drops-more

-- a part of a list that is cut off after it
part-of-cut : (ws : List ℕ) (limit a b : ℕ) → a + b ≤ limit → take limit (take b (drop a ws)) ≡ take b (drop a (take limit ws))
part-of-cut ws limit a b l =
    let e : limit ≡ a + (limit - a) = omega arith in
    let whole = take_all limit (take b (drop a ws)) (omega (arith, length-take b (drop a ws))) in
    let back = ap (λ m. drop a (take m ws)) e ∙ drop-take a (limit - a) ws in
    whole ∙ sym (ap (take b) back ∙ take-take b (limit - a) (drop a ws) (omega arith))

cut-part : (ws : List ℕ) (a b : ℕ) → a + b ≤ 262144 → cut (take b (drop a ws)) ≡ take b (drop a (cut ws))
unfolding cut
cut-part ws a b l = part-of-cut ws 262144 a b l

-- n nines from the j-th on hold 2 n words from word 2 j on
pub words-of-part : (bs : List ℕ) (j n : ℕ) → 2 * (j + n) ≤ length (packed_words bs) → packed_words (take (9 * n) (drop (9 * j) bs)) ≡ take (2 * n) (drop (2 * j) (packed_words bs))
words-of-part bs j n l =
    ap cut (unpack-take (drop (9 * j) bs) n ∙ ap (take (2 * n)) (unpack-drop bs j))
    ∙ cut-part (unpack bs) (2 * j) (2 * n) (omega (arith, length_cut (unpack bs)))
