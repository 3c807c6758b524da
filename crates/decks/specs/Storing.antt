-- Words that are put at the start of a core, over the list of its words.
use Rattle.std.specs.Prelude.{◌≡◌, ℕ, ◌+◌, ◌<◌, ◌≤◌, Bool, true, false, cond, ◌&&◌, List, [], ◌∷◌, ◌++◌, length, take, drop, Ok, Err, Result, ◌==◌, nat_lt, slice_index}
use Rattle.words.specs.Refusals.{number_of}
use Rattle.words.specs.declared.refusal.Refusal.{Refusal}
use Rattle.words.specs.Word.{are_words}

-- ws are stored, and the core's words, before it old, are new: ws from address 0 on, and all else as it was.
-- Refused, nothing changes: with 10 exactly when not all are words, else with 13 exactly when there are too many
abbrev pub Stores : List ℕ → List ℕ → List ℕ → Result (Unit {0}) Refusal → Type 0
Stores old ws new (Ok u) = (are_words ws ≡ true) × (length ws ≤ length old) × (new ≡ ws ++ drop (length ws) old)
Stores old ws new (Err e) = (new ≡ old) × (are_words ws ≡ false → number_of e ≡ 10) × (are_words ws ≡ true → (length old < length ws) × (number_of e ≡ 13))

-- the words begin with ws
abbrev pub Begins : List ℕ → List ℕ → Type 0
Begins xs ws = take (length ws) xs ≡ ws

-- there is a word at a, and it is w
abbrev pub holds_at : List ℕ → ℕ → ℕ → Bool
holds_at xs a w = nat_lt a (length xs) && slice_index xs a == w

-- at how many addresses both have the same word
abbrev pub agreeing : List ℕ → List ℕ → ℕ
agreeing [] ws = 0
agreeing (x ∷ xs) [] = 0
agreeing (x ∷ xs) (w ∷ ws) = cond (x == w) 1 0 + agreeing xs ws
