-- Numbers and decks in octal.
use Rattle.std.specs.Prelude.{ℕ, zero, suc, ◌+◌, ◌/◌, ◌%◌, List, [], ◌∷◌, ◌++◌}

-- the k lowest octal digits of n as characters, highest first
unfoldable pub octal : ℕ → ℕ → List ℕ
octal zero n = []
octal (suc k) n = octal k (n / 8) ++ (48 + n % 8) ∷ []

-- a deck: each word as its twelve octal digits and a newline
abbrev pub written : List ℕ → List ℕ
written [] = []
written (w ∷ ws) = octal 12 w ++ 10 ∷ written ws
