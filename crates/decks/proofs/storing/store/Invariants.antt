use Rattle.std.proofs.Common.{◌≡◌, ◌++◌, take, drop}
use Rattle.decks.proofs.storing.store.Given as goal

-- the first words are there, and all else is as it was
abbrev pub invariant-loop-a : goal.invariant-loop-a
invariant-loop-a g l =
    (g.C.Core.words l.core ≡ take l.a l.words ++ drop l.a (g.C.Core.words l.initial.core))
    × (g.C.Core.rest l.core ≡ g.C.Core.rest l.initial.core)
