-- The parts of an executed word, in their order.
use Rattle.std.proofs.Common.{◌≡◌, ℕ, zero, suc, ◌-◌, ◌<◌, Err, arith}
use Rattle.std.proofs.lemmas.Grind.{common_steps}
use Rattle.machine.specs.Endings.{ended, onward}
use Rattle.machine.specs.Execution.{one_word, followed, executed}
use Rattle.machine.specs.Machine.{Machine}
use Rattle.machine.specs.User.{fetched}
use Rattle.stops.specs.declared.stop.Stop.TheVariants.{ExecutedWords}

module _ (m : Machine) (w : ℕ) where
  pub executed-last : (n : ℕ) → n ≡ 0 → executed n m w ≡ followed (one_word m w) (λ x a. ended x (Err ExecutedWords))
  unfolding executed
  executed-last n z = rw z

  pub executed-more : (n : ℕ) → 0 < n → executed n m w ≡ followed (one_word m w) (λ x a. onward (fetched x.user a) x (executed (n - 1) x))
  unfolding executed
  executed-more zero p = absurd (omega arith)
  executed-more (suc n) p = let e : suc n - 1 ≡ n = omega arith in rw e

-- for `grind`
pub ruleset execution_laws = (common_steps, executed-last, executed-more)
