-- What holds of every deck that is read.
use Rattle.std.specs.Prelude.{◌≡◌, ℕ, ◌≤◌, true, List, length, IfOk, Ok, vec_items, Result, Vec}
use Rattle.decks.specs.Deck.{Answers}
use Rattle.decks.specs.Octal.{written}
use Rattle.words.specs.Word.{are_words}
use Rattle.decks.specs.declared.fault.DeckError.{DeckError}
use Rattle.std.specs.declared.alloc.Global.{Global}

-- a deck that was written out is read back: with its words, and with no fault but that memory fails
abbrev pub ReadsBack : List ℕ → Result (Vec ℕ Global) DeckError → Type 0
ReadsBack text r = (ws : List ℕ) → are_words ws ≡ true → length ws ≤ 262144 → text ≡ written ws → Answers (Ok ws) r

-- a deck that is read has words only, and not more than the greatest core
abbrev pub OnlyWords : Result (Vec ℕ Global) DeckError → Type 0
OnlyWords r = IfOk r (λ v. (are_words (vec_items v) ≡ true) × (length (vec_items v) ≤ 262144))
