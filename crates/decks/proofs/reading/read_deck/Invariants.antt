use Rattle.std.proofs.Common.{◌≡◌, ◌+◌, drop, take}
use Rattle.decks.specs.Deck.{read_from, deck_of}
use Rattle.decks.specs.Reader.{newlines, reading}
use Rattle.decks.proofs.reading.read_deck.Given as goal

-- what is left of the text gives, from the line it is on, what the whole text gives
abbrev pub invariant-loop-k : goal.invariant-loop-k
invariant-loop-k l = read_from (reading (newlines (take l.k-counter l.text) + 1) l.reader) (drop l.k-counter l.text) ≡ deck_of l.text
