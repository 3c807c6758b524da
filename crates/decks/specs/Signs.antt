-- What the characters of a deck are.
use Rattle.std.specs.Prelude.{ℕ, ◌-◌, Bool, cond, ◌&&◌, ◌||◌, ◌==◌, nat_le}
use Rattle.decks.specs.declared.signs.Sign.{Sign}
use Rattle.decks.specs.declared.signs.Sign.TheVariants.{Digit, Blank, NewLine, Hash, Other}

-- 0 to 7
abbrev pub is_octal : ℕ → Bool
is_octal c = nat_le 48 c && nat_le c 55

-- a space, a tab or a carriage return
abbrev pub is_blank : ℕ → Bool
is_blank c = c == 32 || c == 9 || c == 13

abbrev pub sign_of : ℕ → Sign
sign_of c = cond (is_octal c) (Digit (c - 48)) (cond (is_blank c) Blank (cond (c == 10) NewLine (cond (c == 35) Hash Other)))
