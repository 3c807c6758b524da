-- A word is a whole number below 2^36.
use Rattle.std.specs.Prelude.{◌≡◌, ℕ, ◌^◌, ◌<◌, ◌≤◌, Bool, true, ltb, List, length, nat_lt, slice_index, refl, Ok, Err, Result}
use Rattle.words.specs.Refusals.{number_of}
use Rattle.words.specs.declared.refusal.Refusal.{Refusal}
use Rattle.std.specs.List.{list_all}
use Rattle.std.proofs.ByRecursion.{All-get_or, Decides-by_and}
use Rattle.std.proofs.lemmas.List.{get_or_past}
use Rattle.std.proofs.lemmas.Bool.{cases_lt}
use Rattle.std.proofs.lemmas.Bool.Decides.{Decides-ltb}
use Rattle.std.proofs.Common.{⊎_elim, arith}

-- the test of a number: refusal 10 exactly where it is no word
abbrev pub ChecksWord : ℕ → Result (Unit {0}) Refusal → Type 0
ChecksWord w (Ok u) = w < 2 ^ 36
ChecksWord w (Err e) = (2 ^ 36 ≤ w) × (number_of e ≡ 10)

-- whether every number is one
abbrev pub are_words : List ℕ → Bool
are_words = list_all (λ n. nat_lt n (2 ^ 36))

-- each number of the list is a word; past its end stands 0, which is one too
abbrev pub Narrow : List ℕ → Type 0
Narrow ws = (a : ℕ) → slice_index ws a < 2 ^ 36

pub narrow_within : (ws : List ℕ) → ((a : ℕ) → a < length ws → slice_index ws a < 2 ^ 36) → Narrow ws
narrow_within ws h a = ⊎_elim (h a) (λ (l : length ws ≤ a). omega (arith, get_or_past ws a 0 l)) (cases_lt a (length ws))

pub word_at : (ns : List ℕ) (i : ℕ) → are_words ns ≡ true → i < length ns → slice_index ns i < 2 ^ 36
word_at ns i e l =
    All-get_or (λ n. n < 2 ^ 36) ns i 0 l
    ((Decides-by_and (λ n. ltb n (2 ^ 36)) (λ n. n < 2 ^ 36) are_words (λ n. Decides-ltb n (2 ^ 36)) refl (λ _ _. refl) ns).0 e)

pub narrow-words : (ns : List ℕ) → are_words ns ≡ true → Narrow ns
narrow-words ns e = narrow_within ns (λ a l. word_at ns a e l)
