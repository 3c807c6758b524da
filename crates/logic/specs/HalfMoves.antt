-- The moves of a half of one word into a half of another.
use Rattle.std.specs.Prelude.{◌≡◌, ℕ, ◌-◌, ◌*◌, ◌/◌, ◌%◌, ◌^◌, ◌<◌, cond, ◌==◌}
use Rattle.words.specs.Bits.{bit}
use Rattle.logic.specs.Codes.{pick}
use Rattle.logic.specs.Halves.{halves, left, right}
use Rattle.logic.specs.declared.half_words.Half.{Half}
use Rattle.logic.specs.declared.half_words.Half.TheVariants.{Left, Right}
use Rattle.logic.specs.declared.half_words.HalfMove.{HalfMove}
use Rattle.logic.specs.declared.half_words.Other.{Other}
use Rattle.logic.specs.declared.half_words.Other.TheVariants.{Extended, Kept, Ones, Zeros}

abbrev pub opposite : Half → Half
opposite Left = Right
opposite Right = Left

abbrev pub half : Half → ℕ → ℕ
half Left w = left w
half Right w = right w

-- the word with h as this half and g as the other
abbrev pub placed : Half → ℕ → ℕ → ℕ
placed Left h g = halves h g
placed Right h g = halves g h

-- what the other half becomes, where h is the half that was moved and g what stood there
abbrev pub rest : Other → ℕ → ℕ → ℕ
rest Kept h g = g
rest Zeros h g = 0
rest Ones h g = 2 ^ 18 - 1
rest Extended h g = bit h 17 * (2 ^ 18 - 1)

-- the destination after the move
unfoldable pub moved_half : HalfMove → ℕ → ℕ → ℕ
moved_half kind source destination =
    placed kind.to (half kind.from source)
    (rest kind.other (half kind.from source) (half (opposite kind.to) destination))

-- a bit of the other half, where h is the half that was moved and b the bit that stood there
abbrev pub rest_bit : Other → ℕ → ℕ → ℕ
rest_bit Kept h b = b
rest_bit Zeros h b = 0
rest_bit Ones h b = 1
rest_bit Extended h b = bit h 17

-- the half that the move goes to is the half that it comes from, and each bit of the other half is as the move says
abbrev pub Moves : HalfMove → ℕ → ℕ → ℕ → Type 0
Moves kind source destination r =
    (half kind.to r ≡ half kind.from source)
    × ((k : ℕ) → k < 18 → bit (half (opposite kind.to) r) k ≡ rest_bit kind.other (half kind.from source) (bit (half (opposite kind.to) destination) k))

abbrev pub to_of : ℕ → Half
to_of code = cond (code / 32 % 2 == 0) Left Right

abbrev pub from_of : ℕ → Half
from_of code = cond (code / 4 % 2 == 0) (to_of code) (opposite (to_of code))

abbrev pub other_of : ℕ → Other
other_of code = pick (code / 8 % 4) Kept Zeros Ones Extended

-- the move that an instruction's code names
unfoldable pub half_move_of : ℕ → HalfMove
half_move_of code = record { from = from_of code; to = to_of code; other = other_of code }
