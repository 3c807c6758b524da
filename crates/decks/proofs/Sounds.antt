-- What the reader of a deck keeps true.
use Rattle.std.proofs.Common.{◌≡◌, ℕ, ◌^◌, ◌<◌, ◌≤◌, true, List, [], ◌∷◌, ◌++◌, arith}
use Rattle.words.specs.Word.{are_words}
use Rattle.std.proofs.lemmas.Bool.Decides.{nat_tests}
use Rattle.std.proofs.lemmas.List.Folds.{list_all-append}
use native.Mathlib.Nat.{pow-le-pow_right}

-- twelve octal digits are 36 bits
pub octal-le : (n : ℕ) → n ≤ 12 → 8 ^ n ≤ 2 ^ 36
octal-le n l = let p : 8 ^ n ≤ 8 ^ 12 = pow-le-pow_right (omega arith) l in omega arith

pub are_words-push : (ws : List ℕ) (v : ℕ) → are_words ws ≡ true → v < 2 ^ 36 → are_words (ws ++ v ∷ []) ≡ true
are_words-push ws v e l = grind (arith, nat_tests, list_all-append)

pub ruleset sounds = (octal-le, are_words-push)
