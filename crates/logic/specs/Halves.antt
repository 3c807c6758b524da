-- The two halves of a 36-bit word: the left one is the high 18 bits, the right one the low 18.
use Rattle.std.specs.Prelude.{◌≡◌, ℕ, ◌+◌, ◌*◌, ◌/◌, ◌%◌, ◌^◌}

abbrev pub left : ℕ → ℕ
left w = w / 2 ^ 18 % 2 ^ 18

abbrev pub right : ℕ → ℕ
right w = w % 2 ^ 18

-- the word with these halves
abbrev pub halves : ℕ → ℕ → ℕ
halves l r = l % 2 ^ 18 * 2 ^ 18 + r % 2 ^ 18

-- the word with its halves exchanged
abbrev pub swapped : ℕ → ℕ
swapped w = halves (right w) (left w)

-- a word is told by its halves
abbrev pub Consists : ℕ → ℕ → ℕ → Type 0
Consists w l r = (left w ≡ l % 2 ^ 18) × (right w ≡ r % 2 ^ 18) × (halves (left w) (right w) ≡ w)

-- each half came to the other side, and a second exchange gives the word back
abbrev pub Exchanged : ℕ → ℕ → Type 0
Exchanged w r = (left r ≡ right w) × (right r ≡ left w) × (swapped r ≡ w % 2 ^ 36)
