-- A step by its ways out, and a run step by step.
use Rattle.std.proofs.Common.{◌≡◌, ℕ, zero, suc, ◌+◌, ◌-◌, ◌<◌, Some, None, Option, sym, refl, ap, ◌∙◌, add_assoc, zero-add, arith}
use Rattle.std.proofs.lemmas.Grind.{common_steps}
use Rattle.machine.proofs.InPlace.{executes-in-place}
use Rattle.machine.specs.Machine.{Machine}
use Rattle.machine.specs.Steps.{step_of, Ran, went, later, goes_on, run_of, and_on, RunSplits}
use Rattle.stops.specs.declared.stop.Stop.{Stop}

-- the parts of a run
later-zero : (r : Ran) → later 0 r ≡ r
later-zero r = rw zero-add

pub later-later : (a b : ℕ) (r : Ran) → later a (later b r) ≡ later (a + b) r
later-later a b r = rw add_assoc

pub run_of-none : (n : ℕ) (m : Machine) → n ≡ 0 → run_of n m ≡ went m 0 None
unfolding run_of
run_of-none n m z = rw z

-- d steps of n are done
pub run_of-more : (n d : ℕ) (m : Machine) → d < n → run_of (n - d) m ≡ goes_on (step_of m).stop (step_of m).after (run_of (n - (d + 1)))
unfolding run_of
run_of-more n d m l = let e : n - d ≡ suc (n - (d + 1)) = omega arith in rw e

-- splitting a run
later-and_on : (t : Option Stop) (k : ℕ) (r : Ran) (n : ℕ) → later k (and_on t r n) ≡ and_on t (later k r) n
later-and_on None k r n = later-later k r.steps (run_of n r.after)
later-and_on (Some t) k r n = refl

splits-on : (t : Option Stop) (x : Machine) (m n : ℕ) → run_of (m + n) x ≡ and_on (run_of m x).stop (run_of m x) n → goes_on t x (run_of (m + n)) ≡ and_on (goes_on t x (run_of m)).stop (goes_on t x (run_of m)) n
splits-on None x m n again = ap (later 1) again ∙ later-and_on (run_of m x).stop 1 (run_of m x) n
splits-on (Some t) x m n again = refl

pub run-splits : RunSplits
unfolding run_of
run-splits zero n x = rw (zero-add n) (sym (later-zero (run_of n x)))
run-splits (suc m) n x =
    let e : suc m + n ≡ suc (m + n) = omega arith in
    rw e (splits-on (step_of x).stop (step_of x).after m n (run-splits m n (step_of x).after))

-- for `grind`
pub ruleset step_laws = (common_steps, executes-in-place)

pub ruleset run_laws = (common_steps, later-later, run_of-none, run_of-more, run-splits)
