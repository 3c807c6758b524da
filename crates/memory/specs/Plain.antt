-- The words of a plain core: the low 36 bits of each number.
use Rattle.std.specs.Prelude.{◌≡◌, ℕ, ◌%◌, ◌^◌, ◌<◌, List, map, length, set, slice_index, slice_set}
use Rattle.memory.specs.Cut.{cut, over, narrow_cut, cuts}
use Rattle.std.proofs.lemmas.List.{length-map, get_or-map, map-set}
use Rattle.words.specs.Word.{Narrow, narrow_within}
use Rattle.std.specs.Borrow.{GName, MutBor}
use Rattle.std.proofs.Common.{ap, ◌∙◌, mod-eq_of_lt, arith}

unfoldable pub lows : List ℕ → List ℕ
lows xs = map (λ x. x % 2 ^ 36) xs

-- the words over these numbers
abbrev pub plain_words : List ℕ → List ℕ
plain_words xs = cut (lows xs)

-- what else a plain core stands on: which slice is lent to it, and the numbers past the last word
abbrev pub plain_rest : MutBor (List ℕ) → GName × List ℕ
plain_rest cells = (cells.ghost_name, over cells.now)

pub length-lows : (xs : List ℕ) → length (lows xs) ≡ length xs
unfolding lows
length-lows xs = length-map xs (λ x. x % 2 ^ 36)

pub get_or-lows : (xs : List ℕ) (i : ℕ) → i < length xs → slice_index (lows xs) i ≡ slice_index xs i % 2 ^ 36
unfolding lows
get_or-lows xs i h = get_or-map (λ x. x % 2 ^ 36) xs i 0 0 h

pub set-lows : (xs : List ℕ) (i w : ℕ) → w < 2 ^ 36 → lows (slice_set xs i w) ≡ slice_set (lows xs) i w
unfolding lows
set-lows xs i w k = map-set (λ x. x % 2 ^ 36) xs i w ∙ ap (set (map (λ x. x % 2 ^ 36) xs) i) (mod-eq_of_lt k)

pub narrow-lows : (xs : List ℕ) → Narrow (plain_words xs)
narrow-lows xs = narrow_cut (lows xs) (narrow_within (lows xs) (λ a l. omega (arith, get_or-lows xs a (omega (arith, length-lows xs)))))

pub ruleset plains = (cuts, length-lows, get_or-lows, set-lows)
