-- The arithmetic shifts as arithmetic: a product and a quotient by a power of two.
use Rattle.std.specs.Prelude.{◌≡◌, ℕ, ◌^◌, Bool, true, false, cond, ℤ, pos, ◌+ℤ◌, ◌-ℤ◌, ◌*ℤ◌, neg_ℤ, ◌≤ℤ◌, ◌<ℤ◌}
use Rattle.shifts.specs.Arithmetic.{beside}
use Rattle.words.specs.Signed.{is_negative, signed}
use Rattle.shifts.specs.Distance.{distance_of}
use Rattle.shifts.specs.declared.distances.Distance.{Distance}
use Rattle.shifts.specs.declared.distances.Distance.TheVariants.{Left, Right}

-- the signed value of two words
abbrev pub signed_pair : ℕ → ℕ → ℤ
signed_pair a b = cond (is_negative a) (pos (beside a b) -ℤ pos (2 ^ 70)) (pos (beside a b))

-- what a sign and `width` bits beside it can hold
abbrev pub InRange : ℕ → ℤ → Type 0
InRange width v = (neg_ℤ (pos (2 ^ width)) ≤ℤ v) × (v <ℤ pos (2 ^ width))

-- to the left the value is multiplied by 2^n, with Overflow exactly where the product does not fit
pub record Multiplied (width : ℕ) (product result : ℤ) (overflow : Bool) : Type 0 where
  pub exceeds : overflow ≡ true → InRange width product → ⊥
  pub fits : overflow ≡ false → InRange width product
  pub exact : InRange width product → result ≡ product

-- to the right it is divided by 2^n and rounded down, never with Overflow
pub record Divided (value : ℤ) (divisor : ℕ) (result : ℤ) (overflow : Bool) : Type 0 where
  pub at_most : (result *ℤ pos divisor) ≤ℤ value
  pub next-above : value <ℤ ((result +ℤ pos 1) *ℤ pos divisor)
  pub never : overflow ≡ false

abbrev pub Scaled : ℕ → ℤ → Distance → ℤ → Bool → Type 0
Scaled width v (Left n) result overflow = Multiplied width (v *ℤ pos (2 ^ n)) result overflow
Scaled width v (Right n) result overflow = Divided v (2 ^ n) result overflow

abbrev pub ArithmeticScales : ℕ → ℕ → ℕ × Bool → Type 0
ArithmeticScales w e r = Scaled 35 (signed w) (distance_of e) (signed r.0) r.1

abbrev pub ArithmeticPairScales : ℕ → ℕ → ℕ → ℕ × ℕ × Bool → Type 0
ArithmeticPairScales a b e r = Scaled 70 (signed_pair a b) (distance_of e) (signed_pair r.0 r.1) r.2
