-- What a core answers and does, over the list of its words.
use Rattle.std.specs.Prelude.{◌≡◌, ℕ, ◌^◌, ◌<◌, ◌≤◌, List, length, Ok, Err, Result, slice_index, slice_set}
use Rattle.words.specs.Refusals.{number_of}
use Rattle.words.specs.declared.refusal.Refusal.{Refusal}

-- a read at a: the word there, and refusal 13 exactly where there is none
abbrev pub Reads : List ℕ → ℕ → Result ℕ Refusal → Type 0
Reads ws a (Ok w) = (a < length ws) × (w ≡ slice_index ws a)
Reads ws a (Err e) = (length ws ≤ a) × (number_of e ≡ 13)

-- the test of an address: refusal 13 exactly where there is no word
abbrev pub ChecksAddress : List ℕ → ℕ → Result (Unit {0}) Refusal → Type 0
ChecksAddress ws a (Ok u) = a < length ws
ChecksAddress ws a (Err e) = (length ws ≤ a) × (number_of e ≡ 13)

-- the tests before a write of w at a: it is refused with 10 exactly when w is no word, else with 13 exactly when there is
-- no word at a
abbrev pub ChecksWrite : List ℕ → ℕ → ℕ → Result (Unit {0}) Refusal → Type 0
ChecksWrite ws a w (Ok u) = (w < 2 ^ 36) × (a < length ws)
ChecksWrite ws a w (Err e) = (2 ^ 36 ≤ w → number_of e ≡ 10) × (w < 2 ^ 36 → (length ws ≤ a) × (number_of e ≡ 13))

-- a write of w at a, after which the words are vs: w is there and all else is as it was.
-- Refused, nothing changes: with 10 exactly when w is no word, else with 13 exactly when there is no word at a
abbrev pub Writes : List ℕ → ℕ → ℕ → List ℕ → Result (Unit {0}) Refusal → Type 0
Writes ws a w vs (Ok u) = (w < 2 ^ 36) × (a < length ws) × (vs ≡ slice_set ws a w)
Writes ws a w vs (Err e) = (vs ≡ ws) × (2 ^ 36 ≤ w → number_of e ≡ 10) × (w < 2 ^ 36 → (length ws ≤ a) × (number_of e ≡ 13))
