-- Numbers of eight bytes each, highest byte first.
use Rattle.std.specs.Prelude.{◌≡◌, ℕ, ◌+◌, ◌*◌, ◌/◌, ◌%◌, ◌^◌, ◌<◌, List, [], ◌∷◌, slice_index}

abbrev pub number : ℕ → ℕ → ℕ → ℕ → ℕ → ℕ → ℕ → ℕ → ℕ
number a b c d e f g h = a * 2 ^ 56 + b * 2 ^ 48 + c * 2 ^ 40 + d * 2 ^ 32 + e * 2 ^ 24 + f * 2 ^ 16 + g * 2 ^ 8 + h

-- one number for each eight bytes; fewer than eight are none
unfoldable pub numbers : List ℕ → List ℕ
numbers (a ∷ b ∷ c ∷ d ∷ e ∷ f ∷ g ∷ h ∷ bs) = number a b c d e f g h ∷ numbers bs
numbers (a ∷ b ∷ c ∷ d ∷ e ∷ f ∷ g ∷ []) = []
numbers (a ∷ b ∷ c ∷ d ∷ e ∷ f ∷ []) = []
numbers (a ∷ b ∷ c ∷ d ∷ e ∷ []) = []
numbers (a ∷ b ∷ c ∷ d ∷ []) = []
numbers (a ∷ b ∷ c ∷ []) = []
numbers (a ∷ b ∷ []) = []
numbers (a ∷ []) = []
numbers [] = []

-- eight bytes for each number
unfoldable pub encoded : List ℕ → List ℕ
encoded (n ∷ ns) =
    (n / 2 ^ 56 % 2 ^ 8) ∷ (n / 2 ^ 48 % 2 ^ 8) ∷ (n / 2 ^ 40 % 2 ^ 8) ∷ (n / 2 ^ 32 % 2 ^ 8)
    ∷ (n / 2 ^ 24 % 2 ^ 8) ∷ (n / 2 ^ 16 % 2 ^ 8) ∷ (n / 2 ^ 8 % 2 ^ 8) ∷ (n % 2 ^ 8) ∷ encoded ns
encoded [] = []

-- each number of the list has 64 bits; past its end stands 0, which has too
abbrev pub Wide : List ℕ → Type 0
Wide ns = (k : ℕ) → slice_index ns k < 2 ^ 64

-- numbers are read as they were written
abbrev pub ReadAsWritten : Type 0
ReadAsWritten = (ns : List ℕ) → Wide ns → numbers (encoded ns) ≡ ns
