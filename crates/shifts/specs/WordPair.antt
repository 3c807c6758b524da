-- Two words as a result gives them, and as the definitions of the shifts do.
use Rattle.shifts.specs.declared.pair.WordPair.{WordPair}
use Rattle.std.specs.Prelude.{ℕ, Bool}

abbrev pub words_of : WordPair → ℕ × ℕ
words_of p = (p.first, p.second)

-- two words and Overflow
abbrev pub words_and_overflow : WordPair × Bool → ℕ × ℕ × Bool
words_and_overflow r = (r.0.first, r.0.second, r.1)
