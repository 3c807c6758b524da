-- The eight conditions of a comparison, their codes, and the signed comparison of two words.
use Rattle.std.specs.Prelude.{◌≡◌, ℕ, ◌+◌, ◌/◌, ◌%◌, ◌^◌, Bool, true, false, cond, not, ◌&&◌, ◌||◌, ℤ, ◌≤ℤ◌, ◌<ℤ◌, Decides, ◌==◌, nat_le, nat_lt}
use Rattle.words.specs.Signed.{signed}
use Rattle.arithmetic.specs.declared.condition.Condition.{Condition}
use Rattle.arithmetic.specs.declared.condition.Condition.TheVariants.{Never, Less, Equal, LessOrEqual, Always, GreaterOrEqual, NotEqual, Greater}
use Rattle.std.specs.Bool.{xor}

-- the signed value plus 2^35: the sign turned, so that the order of the signed values is that of these numbers
abbrev pub biased_of : ℕ → ℕ
biased_of w = (w % 2 ^ 36 + 2 ^ 35) % 2 ^ 36

-- the condition between two natural numbers
abbrev pub compared : Condition → ℕ → ℕ → Bool
compared Never a b = false
compared Less a b = nat_lt a b
compared Equal a b = a == b
compared LessOrEqual a b = nat_le a b
compared Always a b = true
compared GreaterOrEqual a b = nat_le b a
compared NotEqual a b = not (a == b)
compared Greater a b = nat_lt b a

unfoldable pub holds_of : Condition → ℕ → ℕ → Bool
holds_of condition x y = compared condition (biased_of x) (biased_of y)

-- what a condition says of two signed values
abbrev pub Between : Condition → ℤ → ℤ → Type 0
Between Never a b = ⊥
Between Less a b = a <ℤ b
Between Equal a b = a ≡ b
Between LessOrEqual a b = a ≤ℤ b
Between Always a b = Unit {0}
Between GreaterOrEqual a b = b ≤ℤ a
Between NotEqual a b = a ≡ b → ⊥
Between Greater a b = b <ℤ a

abbrev pub ComparisonLaw : Condition → ℕ → ℕ → Bool → Type 0
ComparisonLaw condition x y r = Decides r (Between condition (signed x) (signed y))

-- the condition of a code of three bits
abbrev pub condition_at : ℕ → Condition
condition_at code =
    cond (code == 0) Never
    (cond (code == 1) Less
    (cond (code == 2) Equal
    (cond (code == 3) LessOrEqual
    (cond (code == 4) Always
    (cond (code == 5) GreaterOrEqual
    (cond (code == 6) NotEqual
    Greater))))))

unfoldable pub condition_of : ℕ → Condition
condition_of code = condition_at (code % 8)

-- The code's lowest bit asks for less, the next one for equal, and the third turns the answer around.
abbrev pub CodeLaw : ℕ → Condition → Type 0
CodeLaw code condition = (x y : ℕ) → holds_of condition x y ≡ xor (code / 4 % 2 == 1) ((code % 2 == 1 && holds_of Less x y) || (code / 2 % 2 == 1 && holds_of Equal x y))
