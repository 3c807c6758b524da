-- What the bits of a word come to under the operations on words.
use Rattle.std.proofs.Common.{◌≡◌, ℕ, ◌+◌, ◌-◌, ◌*◌, ◌/◌, ◌%◌, ◌^◌, ◌<◌, min, max, sym, ap, ◌∙◌, ap₂, div-add-mod', arith, below_none, below_more}
use Rattle.words.specs.Bits.{bit, complement, word}
use Rattle.std.proofs.lemmas.Nat.{or_lt, xor_lt}
use Rattle.std.proofs.lemmas.Nat.Bits.{bit_at-zero, bit_at_and, bit_at_cat_low, bit_at_not, bit_at_or, bit_at_xor}
use lib.Bits.{and_lt, bit_and, bit_or, bit_xor}
use mir.Syntax.{w64}

word-bit : (w k : ℕ) → k < 36 → bit (word w) k ≡ bit w k
word-bit w k l = sym (bit_at_cat_low (w / 2 ^ 36) 36 (word w) k l) ∙ ap (λ n. bit n k) (div-add-mod' w (2 ^ 36))

-- a word's complement has the low 36 bits of the 64 that turning every bit gives
complement-bit : (w k : ℕ) → k < 36 → bit (complement w) k ≡ 1 - bit w k
complement-bit w k l =
    let turned : (2 ^ 28 - 1) * 2 ^ 36 + complement w ≡ 2 ^ 64 - 1 - word w = omega arith in
    sym (bit_at_cat_low (2 ^ 28 - 1) 36 (complement w) k l) ∙ ap (λ n. bit n k) turned ∙ bit_at_not w64 (word w) k (omega arith) (omega arith) ∙ ap (λ n. 1 - n) (word-bit w k l)

-- either of two words is a word, and so is where they differ
pub or_below : (x y : ℕ) → x < 2 ^ 36 → y < 2 ^ 36 → bit_or x y < 2 ^ 36
or_below x y = or_lt 36 x y

pub xor_below : (x y : ℕ) → x < 2 ^ 36 → y < 2 ^ 36 → bit_xor x y < 2 ^ 36
xor_below x y = xor_lt 36 x y

pub ruleset words_below = (or_below, xor_below)

-- what holds of the four pairs of bits holds of any two bits
pub each-pair : (P : ℕ → ℕ → Type 0) → P 0 0 → P 0 1 → P 1 0 → P 1 1 → (b c : ℕ) → b < 2 → c < 2 → P b c
each-pair P p q r s b c l h =
    below_more (λ n. P n c) 1
    (below_more (λ n. P n c) 0 (below_none (λ n. P n c)) (below_more (P 0) 1 (below_more (P 0) 0 (below_none (P 0)) p) q c h))
    (below_more (P 1) 1 (below_more (P 1) 0 (below_none (P 1)) r) s c h) b l

-- the word r has as each of its bits f of the bits of m and a
pub record Bitwise (m a r : ℕ) (f : ℕ → ℕ → ℕ) : Type 0 where
  pub narrow : r < 2 ^ 36
  pub bits : (k : ℕ) → k < 36 → bit r k ≡ f (bit m k) (bit a k)

module _ {m a : ℕ} where
  pub none : Bitwise m a 0 (λ _ _. 0)
  none = record { narrow = omega arith; bits = λ k _. bit_at-zero k }

  pub first : Bitwise m a (word m) (λ b _. b)
  first = record { narrow = omega arith; bits = word-bit m }

  pub second : Bitwise m a (word a) (λ _ c. c)
  second = record { narrow = omega arith; bits = word-bit a }

  pub other-first : Bitwise m a (complement m) (λ b _. 1 - b)
  other-first = record { narrow = omega arith; bits = complement-bit m }

  pub other-second : Bitwise m a (complement a) (λ _ c. 1 - c)
  other-second = record { narrow = omega arith; bits = complement-bit a }

  module _ {x y : ℕ} {f g : ℕ → ℕ → ℕ} (p : Bitwise m a x f) (q : Bitwise m a y g) where
    pub both : Bitwise m a (bit_and x y) (λ b c. min (f b c) (g b c))
    both = record { narrow = and_lt 36 x y p.narrow q.narrow; bits = λ k l. bit_at_and x y k ∙ ap₂ min (p.bits k l) (q.bits k l) }

    pub either : Bitwise m a (bit_or x y) (λ b c. max (f b c) (g b c))
    either = record { narrow = or_lt 36 x y p.narrow q.narrow; bits = λ k l. bit_at_or x y k ∙ ap₂ max (p.bits k l) (q.bits k l) }

    pub differing : Bitwise m a (bit_xor x y) (λ b c. (f b c + g b c) % 2)
    differing = record { narrow = xor_lt 36 x y p.narrow q.narrow; bits = λ k l. bit_at_xor x y k ∙ ap₂ (λ b c. (b + c) % 2) (p.bits k l) (q.bits k l) }

  pub other : {x : ℕ} {f : ℕ → ℕ → ℕ} → Bitwise m a x f → Bitwise m a (complement x) (λ b c. 1 - f b c)
  other {x} p = record { narrow = omega arith; bits = λ k l. complement-bit x k l ∙ ap (λ (n : ℕ). 1 - n) (p.bits k l) }
