-- A block transfer, word by word.
use Rattle.std.proofs.Common.{◌≡◌, ℕ, suc, ◌+◌, ◌-◌, ◌%◌, ◌^◌, ◌<◌, Ok, arith}
use Rattle.std.proofs.lemmas.Grind.{common_steps}
use Rattle.machine.specs.Endings.{ended, onward}
use Rattle.machine.specs.Machine.{Machine, with_word}
use Rattle.machine.specs.Transfer.{transferred}
use Rattle.machine.specs.User.{fetched, stored}

pub transferred-none : (n f t : ℕ) (m : Machine) → n ≡ 0 → transferred n f t m ≡ ended m (Ok tt)
unfolding transferred
transferred-none n f t m z = rw z

-- k words of n are moved
pub transferred-more : (n k f t : ℕ) (m : Machine) → k < n → transferred (n - k) ((f + k) % 2 ^ 18) ((t + k) % 2 ^ 18) m ≡ onward (fetched m.user ((f + k) % 2 ^ 18)) m (λ w. onward (stored m.user ((t + k) % 2 ^ 18)) m (λ _. transferred (n - (k + 1)) ((f + (k + 1)) % 2 ^ 18) ((t + (k + 1)) % 2 ^ 18) (with_word m ((t + k) % 2 ^ 18) w)))
unfolding transferred
transferred-more n k f t m l =
    let e : n - k ≡ suc (n - (k + 1)) = omega arith in
    let x : ((f + k) % 2 ^ 18 + 1) % 2 ^ 18 ≡ (f + (k + 1)) % 2 ^ 18 = omega arith in
    let y : ((t + k) % 2 ^ 18 + 1) % 2 ^ 18 ≡ (t + (k + 1)) % 2 ^ 18 = omega arith in
    rw (e, ← x, ← y)

-- for `grind`
pub ruleset transfer_laws = (common_steps, transferred-none, transferred-more)
