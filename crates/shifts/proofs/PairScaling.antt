-- An arithmetic shift of two words multiplies or divides their signed value by a power of two.
use Rattle.std.proofs.Common.{◌≡◌, ℕ, ◌+◌, ◌/◌, ◌%◌, ◌^◌, ◌<◌, Bool, ℤ, sym, subst, ap₂, arith}
use Rattle.shifts.proofs.Beside.{moved-below}
use Rattle.shifts.proofs.Scaling.{scaled, sign-stays, valued}
use Rattle.shifts.specs.Arithmetic.{moved_beside, overflows, sign_bit, beside, under_sign}
use Rattle.words.specs.Signed.{is_negative as negative}
use Rattle.shifts.specs.Distance.{distance_of}
use Rattle.shifts.specs.Scaling.{signed_pair, Scaled, ArithmeticPairScales}

beside-below : (a b : ℕ) → beside a b < 2 ^ 70
beside-below a b = omega arith

-- two words under one sign hold what was put there
held : (a m : ℕ) → m < 2 ^ 70 → signed_pair (sign_bit a + m / 2 ^ 35) (sign_bit a + m % 2 ^ 35) ≡ valued 70 (negative a) m
held a m h =
    let s : beside (sign_bit a + m / 2 ^ 35) (sign_bit a + m % 2 ^ 35) ≡ m = omega arith in
    ap₂ (valued 70) (sign-stays a (m / 2 ^ 35) (omega arith)) s

pub arithmetic_pair_scales : (a b e : ℕ) (r : ℕ × ℕ × Bool) → r ≡ under_sign a (moved_beside 70 (negative a) (beside a b) (distance_of e)) (overflows 70 (negative a) (beside a b) (distance_of e)) → ArithmeticPairScales a b e r
arithmetic_pair_scales a b e r v =
    let d = distance_of e in
    let h = beside-below a b in
    let m = moved_beside 70 (negative a) (beside a b) d in
    let below : m < 2 ^ 70 = moved-below 70 (negative a) (beside a b) d h in
    subst (ArithmeticPairScales a b e) (sym v)
    (subst (λ (x : ℤ). Scaled 70 (valued 70 (negative a) (beside a b)) d x (overflows 70 (negative a) (beside a b) d)) (sym (held a m below)) (scaled 70 (negative a) (beside a b) d h))
