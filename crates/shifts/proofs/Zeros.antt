-- The zeros ahead of a word's first 1, counted in 36 bits and in 64.
use Rattle.std.proofs.Common.{◌≡◌, ℕ, suc, ◌+◌, ◌-◌, ◌%◌, ◌^◌, ◌<◌, ◌≤◌, eqb, sym, refl, subst, arith}
use Rattle.shifts.specs.Leading.{zeros_ahead}
use Rattle.shifts.specs.Specimens.{LeadingSpecimens}
use Rattle.std.proofs.lemmas.Nat.{leading_length, leading_top}
use Rattle.std.specs.Int.Count.{leading_unique}
use Rattle.std.proofs.lemmas.Bool.{cond-false, ne_eqb}
use lib.Count.{count_leading_zeros}

-- the bits above a word's are 0
pub wider : (n : ℕ) → n < 2 ^ 36 → count_leading_zeros 64 n ≡ 28 + count_leading_zeros 36 n
wider n h =
    let s = leading_length 36 n h in
    sym (leading_unique 64 n (28 + count_leading_zeros 36 n) s.0 (omega arith) s.2 s.3)

pub of_some : (w : ℕ) → 0 < w % 2 ^ 36 → zeros_ahead w ≡ count_leading_zeros 36 (w % 2 ^ 36)
unfolding zeros_ahead
of_some w p = cond-false (eqb (w % 2 ^ 36) 0) 0 (count_leading_zeros 36 (w % 2 ^ 36)) (ne_eqb (w % 2 ^ 36) 0 (λ e. omega arith))

-- the first 1 stands after them
pub first-stands : (n r : ℕ) → 0 < n → n < 2 ^ 36 → r ≡ count_leading_zeros 36 n → (2 ^ (35 - r) ≤ n) × (n < 2 ^ (36 - r))
first-stands n r p h e =
    let s = leading_top 36 n p h in
    let i : s.0 ≡ 35 - r = omega arith in
    let j : suc s.0 ≡ 36 - r = omega arith in
    (subst (λ (x : ℕ). 2 ^ x ≤ n) i s.2, subst (λ (x : ℕ). n < 2 ^ x) j s.3)

pub specimens : LeadingSpecimens
unfolding zeros_ahead count_leading_zeros
specimens = (refl, refl, refl)
