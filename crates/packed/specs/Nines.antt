-- Lists taken nine at a time.
use Rattle.std.specs.Prelude.{ℕ, ◌<◌, List, [], ◌∷◌, length}
use Rattle.std.proofs.Common.{arith}

-- what holds of every list shorter than nine, and of nine elements more wherever it holds, holds of every list
pub by-nines : (P : List ℕ → Type 0) → ((bs : List ℕ) → length bs < 9 → P bs) → ((a b c d e f g h i : ℕ) (bs : List ℕ) → P bs → P (a ∷ b ∷ c ∷ d ∷ e ∷ f ∷ g ∷ h ∷ i ∷ bs)) → (bs : List ℕ) → P bs
by-nines P short nine (a ∷ b ∷ c ∷ d ∷ e ∷ f ∷ g ∷ h ∷ i ∷ bs) = nine a b c d e f g h i bs (by-nines P short nine bs)
by-nines P short nine (a ∷ b ∷ c ∷ d ∷ e ∷ f ∷ g ∷ h ∷ []) = short (a ∷ b ∷ c ∷ d ∷ e ∷ f ∷ g ∷ h ∷ []) (omega arith)
by-nines P short nine (a ∷ b ∷ c ∷ d ∷ e ∷ f ∷ g ∷ []) = short (a ∷ b ∷ c ∷ d ∷ e ∷ f ∷ g ∷ []) (omega arith)
by-nines P short nine (a ∷ b ∷ c ∷ d ∷ e ∷ f ∷ []) = short (a ∷ b ∷ c ∷ d ∷ e ∷ f ∷ []) (omega arith)
by-nines P short nine (a ∷ b ∷ c ∷ d ∷ e ∷ []) = short (a ∷ b ∷ c ∷ d ∷ e ∷ []) (omega arith)
by-nines P short nine (a ∷ b ∷ c ∷ d ∷ []) = short (a ∷ b ∷ c ∷ d ∷ []) (omega arith)
by-nines P short nine (a ∷ b ∷ c ∷ []) = short (a ∷ b ∷ c ∷ []) (omega arith)
by-nines P short nine (a ∷ b ∷ []) = short (a ∷ b ∷ []) (omega arith)
by-nines P short nine (a ∷ []) = short (a ∷ []) (omega arith)
by-nines P short nine [] = short [] (omega arith)
