-- The machine of one program: what it sees of its place, and where it is.
use Rattle.std.specs.Prelude.{ℕ, List, slice_set}
use Rattle.operations.specs.declared.effect.Status.{Status}
use Rattle.machine.specs.User.{user}
use Rattle.machine.specs.declared.place.Place.{Place}

pub record Machine : Type 0 where
  pub user : List ℕ
  pub status : Status

abbrev pub machine : List ℕ → Status → Machine
machine u s = record { user = u; status = s }

-- the machine that a place and the core's words stand for
abbrev pub state : Place → List ℕ → Machine
state p ws = machine (user p.space ws) p.status

-- the machine with the word w at user address a
abbrev pub with_word : Machine → ℕ → ℕ → Machine
with_word m a w = machine (slice_set m.user a w) m.status
