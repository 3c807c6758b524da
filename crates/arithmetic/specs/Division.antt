-- Signed division of words. It rounds toward zero, so the remainder takes its sign from the dividend.
use Rattle.std.specs.Prelude.{◌≡◌, ℕ, ◌-◌, ◌/◌, ◌%◌, ◌^◌, ◌<◌, Bool, cond, ◌&&◌, ◌||◌, ◌⊎◌, ℤ, pos, ◌+ℤ◌, ◌*ℤ◌, neg_ℤ, IfSome, Some, None, Option, MatchOption, ◌==◌, unsigned_abs}
use Rattle.words.specs.Signed.{is_negative, signed}
use Rattle.arithmetic.specs.declared.division.Division.{Division}
use Rattle.std.specs.Int.Signed.{non_neg}
use Rattle.std.specs.Bool.{xor}

abbrev pub magnitude_of : ℕ → ℕ
magnitude_of w = cond (is_negative w) (2 ^ 36 - w % 2 ^ 36) (w % 2 ^ 36)

-- the word of a sign and a magnitude
abbrev pub signed_word : Bool → ℕ → ℕ
signed_word negative m = cond negative ((2 ^ 36 - m) % 2 ^ 36) m

-- magnitudes that are not divided: any by 0, and 2^35 by 1
abbrev pub no_divide : ℕ → ℕ → Bool
no_divide m n = n == 0 || (m == 2 ^ 35 && n == 1)

-- the division of the sign a and the magnitude m by the sign b and the magnitude n
abbrev pub divided_by : Bool → ℕ → Bool → ℕ → Option Division
divided_by a m b n = cond (no_divide m n) None (Some (record { quotient = signed_word (xor a b) (m / n); remainder = signed_word a (m % n) }))

unfoldable pub division_of : ℕ → ℕ → Option Division
division_of x y = divided_by (is_negative x) (magnitude_of x) (is_negative y) (magnitude_of y)

abbrev pub NarrowDivision : Option Division → Type 0
NarrowDivision r = IfSome r (λ d. (d.quotient < 2 ^ 36) × (d.remainder < 2 ^ 36))

-- a is not divided by b: the divisor is 0, or the dividend is −2^35 and the divisor is 1 or −1
abbrev pub Refused : ℤ → ℤ → Type 0
Refused a b = (b ≡ pos 0) ⊎ ((a ≡ neg_ℤ (pos (2 ^ 35))) × ((b ≡ pos 1) ⊎ (b ≡ neg_ℤ (pos 1))))

-- a divided by b is q, and r remains
pub record Divided (a b q r : ℤ) : Type 0 where
  pub allowed : Refused a b → ⊥
  pub whole : a ≡ q *ℤ b +ℤ r
  pub small : unsigned_abs r < unsigned_abs b
  pub sign : (r ≡ pos 0) ⊎ (non_neg r ≡ non_neg a)

abbrev pub DivisionLaw : ℕ → ℕ → Option Division → Type 0
DivisionLaw x y r = MatchOption r (Refused (signed x) (signed y)) (λ d. Divided (signed x) (signed y) (signed d.quotient) (signed d.remainder))
