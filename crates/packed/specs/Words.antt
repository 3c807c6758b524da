-- The words of a packed core, and what it leaves over.
use Rattle.std.specs.Prelude.{◌≡◌, ℕ, zero, suc, ◌*◌, ◌/◌, ◌^◌, ◌<◌, min, List, [], ◌∷◌, length, drop, refl}
use Rattle.memory.specs.Cut.{cut, narrow_cut}
use Rattle.packed.specs.Layout.{even, odd, unpack}
use Rattle.packed.specs.Nines.{by-nines}
use Rattle.words.specs.Word.{Narrow}
use Rattle.std.specs.Borrow.{GName, MutBor}
use Rattle.std.proofs.Common.{arith}
use Rattle.std.proofs.lemmas.Nat.{mod_below, pow_pos}

-- the words over these bytes
abbrev pub packed_words : List ℕ → List ℕ
packed_words bs = cut (unpack bs)

-- what lies past the last word: bytes short of a nine, and all past 131,072 nines
unfoldable pub left_over : List ℕ → List ℕ
left_over bs = drop (9 * min 131072 (length bs / 9)) bs

-- what else a packed core stands on: which slice is lent to it, and the bytes left over
abbrev pub packed_rest : MutBor (List ℕ) → GName × List ℕ
packed_rest bytes = (bytes.ghost_name, left_over bytes.now)

pub unpack-short : (bs : List ℕ) → length bs < 9 → unpack bs ≡ []
unfolding unpack
unpack-short (a ∷ b ∷ c ∷ d ∷ e ∷ f ∷ g ∷ h ∷ i ∷ bs) l = absurd (omega arith)
unpack-short (a ∷ b ∷ c ∷ d ∷ e ∷ f ∷ g ∷ h ∷ []) l = refl
unpack-short (a ∷ b ∷ c ∷ d ∷ e ∷ f ∷ g ∷ []) l = refl
unpack-short (a ∷ b ∷ c ∷ d ∷ e ∷ f ∷ []) l = refl
unpack-short (a ∷ b ∷ c ∷ d ∷ e ∷ []) l = refl
unpack-short (a ∷ b ∷ c ∷ d ∷ []) l = refl
unpack-short (a ∷ b ∷ c ∷ []) l = refl
unpack-short (a ∷ b ∷ []) l = refl
unpack-short (a ∷ []) l = refl
unpack-short [] l = refl

pub length-unpack : (bs : List ℕ) → length (unpack bs) ≡ 2 * (length bs / 9)
unfolding unpack
length-unpack =
    by-nines (λ bs. length (unpack bs) ≡ 2 * (length bs / 9))
    (λ bs l. rw (unpack-short bs l) (omega arith))
    (λ a b c d e f g h i bs again. omega (arith, again))

narrow-pair : (u v : ℕ) (ws : List ℕ) → u < 2 ^ 36 → v < 2 ^ 36 → Narrow ws → Narrow (u ∷ v ∷ ws)
narrow-pair u v ws p q r zero = p
narrow-pair u v ws p q r (suc zero) = q
narrow-pair u v ws p q r (suc (suc a)) = r a

pub narrow-unpack : (bs : List ℕ) → Narrow (unpack bs)
unfolding unpack even odd
narrow-unpack =
    by-nines (λ bs. Narrow (unpack bs))
    (λ bs l a. rw (unpack-short bs l) (omega arith))
    (λ a b c d e f g h i bs again. narrow-pair (even a b c d e) (odd e f g h i) (unpack bs) (mod_below _ (2 ^ 36) (pow_pos 36)) (mod_below _ (2 ^ 36) (pow_pos 36)) again)

pub narrow-packed : (bs : List ℕ) → Narrow (packed_words bs)
narrow-packed bs = narrow_cut (unpack bs) (narrow-unpack bs)
