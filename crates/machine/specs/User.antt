-- What a program sees of its place: sixteen accumulators, and then the words of its block from the seventeenth on.
use Rattle.std.specs.Prelude.{ℕ, ◌+◌, ◌-◌, ◌*◌, cond, List, ◌++◌, length, take, drop, Ok, Err, Result, nat_lt, slice_index}
use Rattle.machine.specs.declared.space.Space.{Space}
use Rattle.stops.specs.declared.stop.Stop.{Stop}
use Rattle.stops.specs.declared.stop.Stop.TheVariants.{IllegalAddress}

-- the user words, by user address, of a block of so many times 1,024 words in a core of words ws
unfoldable pub user_of : List ℕ → ℕ → ℕ → List ℕ → List ℕ
user_of accumulators base blocks ws = accumulators ++ take (1024 * blocks - 16) (drop (1024 * base + 16) ws)

abbrev pub user : Space → List ℕ → List ℕ
user p ws = user_of p.accumulators p.base p.blocks ws

-- reading user address a
abbrev pub fetched : List ℕ → ℕ → Result ℕ Stop
fetched u a = cond (nat_lt a (length u)) (Ok (slice_index u a)) (Err (IllegalAddress a))

-- whether a word may be stored at user address a
abbrev pub stored : List ℕ → ℕ → Result (Unit {0}) Stop
stored u a = cond (nat_lt a (length u)) (Ok tt) (Err (IllegalAddress a))

-- what no program changes: where its block lies, each word of the core that is not the program's, and what else the core
-- stands on
pub record Outside (R : Type 0) : Type 0 where
  pub base : ℕ
  pub blocks : ℕ
  pub count : ℕ
  pub below : List ℕ
  pub above : List ℕ
  pub rest : R

abbrev pub outside : {R : Type 0} → Space → List ℕ → R → Outside R
outside p ws r =
    record {
      base = p.base;
      blocks = p.blocks;
      count = length ws;
      below = take (1024 * p.base + 16) ws;
      above = drop (1024 * (p.base + p.blocks)) ws;
      rest = r;
    }
