-- How `omega` reads a signed value: as a difference of two natural numbers, at each of the two signs.
use Rattle.std.proofs.Common.{◌≡◌, ℕ, ◌+◌, ◌%◌, ◌^◌, ◌<◌, ◌≤◌, ◌⊎◌, ℤ, pos, ◌-ℤ◌, true, false, inl, inr, arith}
use Rattle.words.specs.Signed.{is_negative, signed}
use Rattle.std.proofs.lemmas.Bool.{cond_both, cond-true, cond-false, leb-true, leb-false}
use borrow.Author.Differences.{up, down, ints}

abbrev pub Reads : ℕ → ℤ → Type 0
Reads w z = ((w % 2 ^ 36 < 2 ^ 35) × (up z ≡ down z + w % 2 ^ 36)) ⊎ ((2 ^ 35 ≤ w % 2 ^ 36) × (up z + 2 ^ 36 ≡ down z + w % 2 ^ 36))

pub signed_reads : (w : ℕ) → Reads w (signed w)
unfolding signed
signed_reads w =
    cond_both (is_negative w) (pos (w % 2 ^ 36) -ℤ pos (2 ^ 36)) (pos (w % 2 ^ 36)) (Reads w)
    (λ e. inr (leb-true (2 ^ 35) (w % 2 ^ 36) e, omega (arith, ints)))
    (λ e. inl (leb-false (2 ^ 35) (w % 2 ^ 36) e, omega arith))

pub signed_below : (w : ℕ) → is_negative w ≡ true → signed w ≡ pos (w % 2 ^ 36) -ℤ pos (2 ^ 36)
unfolding signed
signed_below w e = cond-true (is_negative w) (pos (w % 2 ^ 36) -ℤ pos (2 ^ 36)) (pos (w % 2 ^ 36)) e

pub signed_above : (w : ℕ) → is_negative w ≡ false → signed w ≡ pos (w % 2 ^ 36)
unfolding signed
signed_above w e = cond-false (is_negative w) (pos (w % 2 ^ 36) -ℤ pos (2 ^ 36)) (pos (w % 2 ^ 36)) e
