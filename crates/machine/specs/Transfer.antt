-- A block transfer: word after word, each read and then written; what was moved before a fault stays.
use Rattle.std.specs.Prelude.{ℕ, zero, suc, ◌+◌, ◌-◌, ◌%◌, ◌^◌, Ok}
use Rattle.machine.specs.Endings.{Ended, ended, onward}
use Rattle.machine.specs.Machine.{Machine, with_word}
use Rattle.machine.specs.User.{fetched, stored}

unfoldable pub transferred : ℕ → ℕ → ℕ → Machine → Ended (Unit {0})
transferred zero from to m = ended m (Ok tt)
transferred (suc n) from to m =
    onward (fetched m.user from) m
    (λ w. onward (stored m.user to) m (λ _. transferred n ((from + 1) % 2 ^ 18) ((to + 1) % 2 ^ 18) (with_word m to w)))

-- how many words are moved: up to the one that goes to e, and one at least
abbrev pub words_moved : ℕ → ℕ → ℕ
words_moved to e = e - to + 1
