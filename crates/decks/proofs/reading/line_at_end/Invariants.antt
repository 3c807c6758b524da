use Rattle.std.proofs.Common.{◌≡◌, ◌≤◌, take}
use Rattle.decks.specs.Reader.{newlines}
use Rattle.decks.proofs.reading.line_at_end.Given as goal

-- the newlines so far, no more than the characters
abbrev pub invariant-loop-c : goal.invariant-loop-c
invariant-loop-c l = (l.ended ≡ newlines (take l.c-index l.text)) × (l.ended ≤ l.c-index)
