-- How a field of an instruction's code chooses among four.
use Rattle.std.specs.Prelude.{ℕ, cond, ◌==◌}

abbrev pub pick : {A : Type 0} → ℕ → A → A → A → A → A
pick n a b c d = cond (n == 0) a (cond (n == 1) b (cond (n == 2) c d))
