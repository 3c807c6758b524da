-- Packing and unpacking undo each other.
use Rattle.std.proofs.Common.{◌≡◌, ℕ, suc, ◌+◌, ◌*◌, ◌/◌, ◌%◌, ◌^◌, ◌<◌, List, [], ◌∷◌, length, get_or, refl, arith}
use Rattle.packed.specs.Layout.{even, odd, unpack, pack}
use Rattle.packed.specs.Nines.{by-nines}
use Rattle.words.specs.Word.{Narrow}

even-back : (u v : ℕ) → u < 2 ^ 36 → v < 2 ^ 36 → even (u / 2 ^ 28) (u / 2 ^ 20 % 2 ^ 8) (u / 2 ^ 12 % 2 ^ 8) (u / 2 ^ 4 % 2 ^ 8) (u % 2 ^ 4 * 2 ^ 4 + v / 2 ^ 32) ≡ u
unfolding even
even-back u v h k = omega arith

odd-back : (u v : ℕ) → v < 2 ^ 36 → odd (u % 2 ^ 4 * 2 ^ 4 + v / 2 ^ 32) (v / 2 ^ 24 % 2 ^ 8) (v / 2 ^ 16 % 2 ^ 8) (v / 2 ^ 8 % 2 ^ 8) (v % 2 ^ 8) ≡ v
unfolding odd
odd-back u v k = omega arith

-- words packed and unpacked again are as they were
pub unpack-pack : (ws : List ℕ) → Narrow ws → length ws % 2 ≡ 0 → unpack (pack ws) ≡ ws
unfolding pack unpack
unpack-pack [] h e = refl
unpack-pack (u ∷ []) h e = absurd (omega arith)
unpack-pack (u ∷ v ∷ ws) h e =
    let x = even-back u v (h 0) (h 1) in
    let y = odd-back u v (h 1) in
    let less : length ws % 2 ≡ 0 = omega arith in
    let z = unpack-pack ws (λ k. h (suc (suc k))) less in
    cc

-- each number of the list is a byte; past its end stands 0, which is one too
abbrev pub Octets : List ℕ → Type 0
Octets bs = (k : ℕ) → get_or bs k 0 < 2 ^ 8

abbrev PacksBack : List ℕ → Type 0
PacksBack bs = Octets bs → length bs % 9 ≡ 0 → pack (unpack bs) ≡ bs

short_back : (bs : List ℕ) → length bs < 9 → PacksBack bs
unfolding pack unpack
short_back [] l o z = refl
short_back (b ∷ bs) l o z = absurd (omega arith)

module _ (a b c d e f g h i : ℕ) (ha : a < 2 ^ 8) (hb : b < 2 ^ 8) (hc : c < 2 ^ 8) (hd : d < 2 ^ 8) (he : e < 2 ^ 8) (hf : f < 2 ^ 8) (hg : g < 2 ^ 8) (hh : h < 2 ^ 8) (hi : i < 2 ^ 8) where
  back_a : even a b c d e / 2 ^ 28 ≡ a
  unfolding even
  back_a = omega arith

  back-b : even a b c d e / 2 ^ 20 % 2 ^ 8 ≡ b
  unfolding even
  back-b = omega arith

  back-c : even a b c d e / 2 ^ 12 % 2 ^ 8 ≡ c
  unfolding even
  back-c = omega arith

  back-d : even a b c d e / 2 ^ 4 % 2 ^ 8 ≡ d
  unfolding even
  back-d = omega arith

  back-e : even a b c d e % 2 ^ 4 * 2 ^ 4 + odd e f g h i / 2 ^ 32 ≡ e
  unfolding even odd
  back-e = omega arith

  back_f : odd e f g h i / 2 ^ 24 % 2 ^ 8 ≡ f
  unfolding odd
  back_f = omega arith

  back-g : odd e f g h i / 2 ^ 16 % 2 ^ 8 ≡ g
  unfolding odd
  back-g = omega arith

  back-h : odd e f g h i / 2 ^ 8 % 2 ^ 8 ≡ h
  unfolding odd
  back-h = omega arith

  back-i : odd e f g h i % 2 ^ 8 ≡ i
  unfolding odd
  back-i = omega arith

  nine-back : (bs : List ℕ) → pack (unpack bs) ≡ bs → pack (even a b c d e ∷ odd e f g h i ∷ unpack bs) ≡ a ∷ b ∷ c ∷ d ∷ e ∷ f ∷ g ∷ h ∷ i ∷ bs
  unfolding pack
  nine-back bs again = cc (back_a, back-b, back-c, back-d, back-e, back_f, back-g, back-h, back-i)

nines-back : (a b c d e f g h i : ℕ) (bs : List ℕ) → PacksBack bs → PacksBack (a ∷ b ∷ c ∷ d ∷ e ∷ f ∷ g ∷ h ∷ i ∷ bs)
unfolding unpack
nines-back a b c d e f g h i bs again o z =
    nine-back a b c d e f g h i (o 0) (o 1) (o 2) (o 3) (o 4) (o 5) (o 6) (o 7) (o 8) bs
    (again (λ k. o (suc (suc (suc (suc (suc (suc (suc (suc (suc k)))))))))) (omega arith))

-- bytes unpacked and packed again are as they were
pub pack-unpack : (bs : List ℕ) → Octets bs → length bs % 9 ≡ 0 → pack (unpack bs) ≡ bs
pack-unpack = by-nines PacksBack short_back nines-back
