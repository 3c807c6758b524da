-- The reader of a deck beside the definition.
use Rattle.std.specs.Prelude.{◌≡◌, ℕ, ◌+◌, cond, List, Ok, Err, vec_items, Result, Vec, ◌==◌}
use Rattle.decks.specs.Deck.{Reading, step_on, Unless-memory}
use Rattle.decks.specs.declared.fault.DeckFault.{DeckFault}
use Rattle.decks.specs.declared.fault.DeckFault.TheVariants.{NoMemory}
use Rattle.decks.specs.declared.reader.Reader.{Reader}
use Rattle.std.specs.declared.alloc.Global.{Global}
use Rattle.std.specs.List.{count_by}

-- the reader, where the next character is on this line
abbrev pub reading : ℕ → Reader → Reading
reading line r = record { line = line; words = vec_items r.words; mode = r.mode }

-- how many lines end in this much of a text
abbrev pub newlines : List ℕ → ℕ
newlines text = count_by (λ c. c == 10) text

-- the line of the character after c
abbrev pub line_after : ℕ → ℕ → ℕ
line_after c line = cond (c == 10) (line + 1) line

-- the reader went over the character c, on whatever line, from s to t with this result. At a fault it stays
abbrev pub Goes : ℕ → Reader → Reader → Result (Unit {0}) DeckFault → Type 0
Goes c s t (Ok u) = (line : ℕ) → step_on c (reading line s) ≡ Ok (reading (line_after c line) t)
Goes c s t (Err f) = (line : ℕ) → (reading line t ≡ reading line s) × Unless-memory f (step_on c (reading line s) ≡ Err f)

-- the reader ended with this result, where the words are ws
abbrev pub Ends : List ℕ → Result (Vec ℕ Global) DeckFault → Type 0
Ends ws (Ok v) = vec_items v ≡ ws
Ends ws (Err f) = f ≡ NoMemory
