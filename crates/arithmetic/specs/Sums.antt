-- Sums of words of 36 bits, with the carry that leaves bit 0 and the one that leaves bit 1.
use Rattle.std.specs.Prelude.{◌≡◌, ℕ, ◌+◌, ◌%◌, ◌^◌, Bool, cond, ◌⊎◌, ℤ, pos, ◌+ℤ◌, ◌-ℤ◌, neg_ℤ, ◌≤ℤ◌, ◌<ℤ◌, Decides, nat_le}
use Rattle.arithmetic.specs.Signed.{Representable}
use Rattle.words.specs.Signed.{signed}

abbrev pub bit : Bool → ℕ
bit c = cond c 1 0

-- the sum, the carry out of bit 0, and the carry out of bit 1
unfoldable pub add_words : ℕ → ℕ → Bool → ℕ × Bool × Bool
add_words x y c = ((x % 2 ^ 36 + y % 2 ^ 36 + bit c) % 2 ^ 36, nat_le (2 ^ 36) (x % 2 ^ 36 + y % 2 ^ 36 + bit c), nat_le (2 ^ 35) (x % 2 ^ 35 + y % 2 ^ 35 + bit c))

-- The sum r with its carries stands for the true result z. The carries agree exactly when z is the signed value of some
-- word, and the sum then has that value; otherwise the sum is 2^36 away from z.
pub record StandsFor (z : ℤ) (r : ℕ × Bool × Bool) : Type 0 where
  pub fits : r.1 ≡ r.2 → Representable z
  pub agree : Representable z → r.1 ≡ r.2
  pub exact : Representable z → signed r.0 ≡ z
  pub below : z <ℤ neg_ℤ (pos (2 ^ 35)) → signed r.0 ≡ z +ℤ pos (2 ^ 36)
  pub above : pos (2 ^ 35) ≤ℤ z → signed r.0 ≡ z -ℤ pos (2 ^ 36)

abbrev pub SumLaw : ℕ → ℕ → Bool → ℕ × Bool × Bool → Type 0
SumLaw x y c r = StandsFor (signed x +ℤ signed y +ℤ pos (bit c)) r

abbrev pub DifferenceLaw : ℕ → ℕ → ℕ × Bool × Bool → Type 0
DifferenceLaw x y r = StandsFor (signed x -ℤ signed y) r

abbrev pub NegationLaw : ℕ → ℕ × Bool × Bool → Type 0
NegationLaw x r = StandsFor (neg_ℤ (signed x)) r

-- negating 0 gives both carries, negating −2^35 gives carry 1 alone, and nothing else gives a carry
abbrev pub NegationCarries : ℕ → ℕ × Bool × Bool → Type 0
NegationCarries x r = Decides r.1 (signed x ≡ pos 0) × Decides r.2 ((signed x ≡ pos 0) ⊎ (signed x ≡ neg_ℤ (pos (2 ^ 35))))

abbrev pub SuccessorLaw : ℕ → ℕ × Bool × Bool → Type 0
SuccessorLaw x r = StandsFor (signed x +ℤ pos 1) r

abbrev pub PredecessorLaw : ℕ → ℕ × Bool × Bool → Type 0
PredecessorLaw x r = StandsFor (signed x -ℤ pos 1) r
