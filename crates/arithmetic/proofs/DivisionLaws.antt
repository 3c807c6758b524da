-- The division of magnitudes, with the signs put back, is the division of the signed values that drops the fraction.
use Rattle.std.proofs.Common.{◌≡◌, ℕ, zero, suc, ◌-◌, ◌*◌, ◌/◌, ◌%◌, ◌^◌, ◌<◌, ◌≤◌, Bool, true, false, cond, ◌&&◌, eqb, leb, ◌⊎◌, ℤ, pos, ◌+ℤ◌, ◌*ℤ◌, neg_ℤ, nat_abs, to_z, of_z, w64, Some, None, Option, sym, refl, ap, ap₂, ◌∙◌, subst, inl, inr, ⊎_elim, arith}
use Rattle.arithmetic.proofs.SignedLaws.{signed_reads}
use Rattle.arithmetic.specs.Division.{magnitude_of, signed_word, no_divide, division_of, Refused, Divided, DivisionLaw}
use Rattle.words.specs.Signed.{is_negative, signed}
use Rattle.std.proofs.lemmas.Int.{quot-rem}
use Rattle.std.specs.Int.Signed.{quot_z, rem_z}
use Rattle.std.proofs.lemmas.Nat.{div_below, mod_below}
use Rattle.std.proofs.lemmas.Bool.{leb-true, leb-false, eqb-true, and_parts, or_cases, cases_eq}
use Rattle.std.proofs.lemmas.Bool.Decides.{nat_tests}
use Rattle.arithmetic.specs.declared.division.Division.{Division}
use borrow.Author.Differences.{ints}
use lib.Signed.{non_neg}
use mathlib.Core.Bool.{xor}
use native.Mathlib.Nat.{mod-le, zero-div, zero-mod}

-- the integer of a sign and a magnitude
abbrev oriented : Bool → ℕ → ℤ
oriented negative m = cond negative (neg_ℤ (pos m)) (pos m)

abs_is : (a : Bool) (m : ℕ) → nat_abs (oriented a m) ≡ m
abs_is false m = refl
abs_is true zero = refl
abs_is true (suc m) = refl

-- Rust's quotient and remainder, at each pair of signs
quot_is : (a b : Bool) (m n : ℕ) → 0 < n → quot_z (oriented a m) (oriented b n) ≡ oriented (xor a b) (m / n)
unfolding xor
quot_is false false m n p = refl
quot_is false true m zero p = absurd (omega arith)
quot_is false true m (suc n) p = refl
quot_is true false zero n p = rw zero-div
quot_is true false (suc m) n p = refl
quot_is true true m zero p = absurd (omega arith)
quot_is true true zero (suc n) p = rw zero-div
quot_is true true (suc m) (suc n) p = refl

rem_is : (a b : Bool) (m n : ℕ) → rem_z (oriented a m) (oriented b n) ≡ oriented a (m % n)
rem_is false b m n = ap (λ k. pos (m % k)) (abs_is b n)
rem_is true b zero n = ap pos (zero-mod (nat_abs (oriented b n))) ∙ sym (ap (oriented true) (zero-mod n))
rem_is true b (suc m) n = ap (λ k. neg_ℤ (pos (suc m % k))) (abs_is b n)

whole_is : (a b : Bool) (m n : ℕ) → 0 < n → oriented a m ≡ oriented (xor a b) (m / n) *ℤ oriented b n +ℤ oriented a (m % n)
whole_is a b m n p =
    sym (quot-rem (oriented a m) (oriented b n)) ∙ ap₂ (λ (q r : ℤ). q *ℤ oriented b n +ℤ r) (quot_is a b m n p) (rem_is a b m n)

sign-is : (a : Bool) (m r : ℕ) → r ≤ m → (oriented a r ≡ pos 0) ⊎ (non_neg (oriented a r) ≡ non_neg (oriented a m))
sign-is false m r h = inr refl
sign-is true m zero h = inl refl
sign-is true zero (suc r) h = absurd (omega arith)
sign-is true (suc m) (suc r) h = inr refl

-- ---- words
magnitude-at : (b : Bool) (n : ℕ) → leb (2 ^ 35) n ≡ b → n < 2 ^ 36 → cond b (2 ^ 36 - n) n ≤ 2 ^ 35
magnitude-at true n e h = omega (arith, leb-true (2 ^ 35) n e)
magnitude-at false n e h = omega (arith, leb-false (2 ^ 35) n e)

magnitude-most : (w : ℕ) → magnitude_of w ≤ 2 ^ 35
magnitude-most w = magnitude-at (is_negative w) (w % 2 ^ 36) refl (omega arith)

oriented-at : (b : Bool) (w : ℕ) → leb (2 ^ 35) (w % 2 ^ 36) ≡ b → signed w ≡ oriented b (cond b (2 ^ 36 - w % 2 ^ 36) (w % 2 ^ 36))
oriented-at true w e = omega (arith, ints, signed_reads w, leb-true (2 ^ 35) (w % 2 ^ 36) e)
oriented-at false w e = omega (arith, ints, signed_reads w, leb-false (2 ^ 35) (w % 2 ^ 36) e)

signed_is : (w : ℕ) → signed w ≡ oriented (is_negative w) (magnitude_of w)
signed_is w = oriented-at (is_negative w) w refl

signed-word-is : (b : Bool) (m : ℕ) → m < 2 ^ 35 → signed (signed_word b m) ≡ oriented b m
signed-word-is true m h = omega (arith, ints, signed_reads ((2 ^ 36 - m) % 2 ^ 36))
signed-word-is false m h = omega (arith, ints, signed_reads m)

magnitude-is : (w : ℕ) → magnitude_of w ≡ nat_abs (signed w)
magnitude-is w = sym (abs_is (is_negative w) (magnitude_of w)) ∙ ap nat_abs (sym (signed_is w))

pub magnitude_tells : (w : ℕ) (z : ℤ) → z ≡ signed w → nat_abs z ≡ magnitude_of w
magnitude_tells w z e = ap nat_abs e ∙ sym (magnitude-is w)

pub magnitude_most : (w : ℕ) (z : ℤ) (m : ℕ) → z ≡ signed w → m ≡ nat_abs (to_z w64 (of_z w64 z)) → m ≤ 2 ^ 35
magnitude_most w z m e f = omega (arith, ints, e, f, signed_reads w)

-- ---- which divisions are refused
no_sign : (b : Bool) → oriented b 0 ≡ pos 0
no_sign true = refl
no_sign false = refl

either-one : (b : Bool) → (oriented b 1 ≡ pos 1) ⊎ (oriented b 1 ≡ neg_ℤ (pos 1))
either-one true = inr refl
either-one false = inl refl

least_at : (b : Bool) (w : ℕ) → leb (2 ^ 35) (w % 2 ^ 36) ≡ b → cond b (2 ^ 36 - w % 2 ^ 36) (w % 2 ^ 36) ≡ 2 ^ 35 → signed w ≡ neg_ℤ (pos (2 ^ 35))
least_at true w e h = omega (arith, ints, signed_reads w, leb-true (2 ^ 35) (w % 2 ^ 36) e)
least_at false w e h = absurd (omega (arith, leb-false (2 ^ 35) (w % 2 ^ 36) e))

zero_is : (w : ℕ) → magnitude_of w ≡ 0 → signed w ≡ pos 0
zero_is w e = signed_is w ∙ ap (oriented (is_negative w)) e ∙ no_sign (is_negative w)

one-is : (w : ℕ) → magnitude_of w ≡ 1 → (signed w ≡ pos 1) ⊎ (signed w ≡ neg_ℤ (pos 1))
one-is w e =
    let s : signed w ≡ oriented (is_negative w) 1 = signed_is w ∙ ap (oriented (is_negative w)) e in
    ⊎_elim (λ o. inl (s ∙ o)) (λ o. inr (s ∙ o)) (either-one (is_negative w))

refused : (x y : ℕ) → no_divide (magnitude_of x) (magnitude_of y) ≡ true → Refused (signed x) (signed y)
refused x y e =
    ⊎_elim (λ z. inl (zero_is y (eqb-true (magnitude_of y) 0 z)))
    (λ z.
    let p = and_parts (eqb (magnitude_of x) (2 ^ 35)) (eqb (magnitude_of y) 1) z in
    inr (least_at (is_negative x) x refl (eqb-true (magnitude_of x) (2 ^ 35) p.0), one-is y (eqb-true (magnitude_of y) 1 p.1)))
    (or_cases (eqb (magnitude_of y) 0) (eqb (magnitude_of x) (2 ^ 35) && eqb (magnitude_of y) 1) e)

-- what is known of magnitudes that are divided
abbrev Apart : ℕ → ℕ → Type 0
Apart m n = (0 < n) × (m ≡ 2 ^ 35 → n ≡ 1 → ⊥)

apart : (m n : ℕ) → no_divide m n ≡ false → Apart m n
apart m n e = (grind (arith, nat_tests), grind (arith, nat_tests))

one-away : (y : ℕ) → (signed y ≡ pos 1) ⊎ (signed y ≡ neg_ℤ (pos 1)) → magnitude_of y ≡ 1
one-away y (inl e) = magnitude-is y ∙ ap nat_abs e
one-away y (inr e) = magnitude-is y ∙ ap nat_abs e

allowed : (x y : ℕ) → Apart (magnitude_of x) (magnitude_of y) → Refused (signed x) (signed y) → ⊥
allowed x y p (inl e) = let z : magnitude_of y ≡ 0 = magnitude-is y ∙ ap nat_abs e in omega arith
allowed x y p (inr (e, f)) = p.1 (magnitude-is x ∙ ap nat_abs e) (one-away y f)

-- ---- the law
quotient-below : (m n : ℕ) → m ≤ 2 ^ 35 → Apart m n → m / n < 2 ^ 35
quotient-below m n h p =
    let below : m < 2 ^ 35 * n = ⊎_elim (λ (e : n ≡ 1). let ne : m ≡ 2 ^ 35 → ⊥ = λ k. p.1 k e in omega arith) (λ (e : n ≡ 1 → ⊥). omega arith) (cases_eq n 1) in
    div_below m n (2 ^ 35) p.0 below

remainder-below : (m n : ℕ) → n ≤ 2 ^ 35 → Apart m n → m % n < 2 ^ 35
remainder-below m n h p = let below : m % n < n = mod_below m n p.0 in omega arith

divided : (x y : ℕ) → Apart (magnitude_of x) (magnitude_of y)
    → Divided (signed x) (signed y) (signed (signed_word (xor (is_negative x) (is_negative y)) (magnitude_of x / magnitude_of y))) (signed (signed_word (is_negative x) (magnitude_of x % magnitude_of y)))
divided x y p =
    let m = magnitude_of x in
    let n = magnitude_of y in
    let a = is_negative x in
    let b = is_negative y in
    let ex = signed_is x in
    let ey = signed_is y in
    let eq = signed-word-is (xor a b) (m / n) (quotient-below m n (magnitude-most x) p) in
    let er = signed-word-is a (m % n) (remainder-below m n (magnitude-most y) p) in
    record {
      allowed = allowed x y p;
      whole = rw (ex, ey, eq, er) (whole_is a b m n p.0);
      small = rw (ey, er, abs_is a (m % n), abs_is b n) (mod_below m n p.0);
      sign = rw (ex, er) (sign-is a m (m % n) (mod-le m n));
    }

law-at : (x y : ℕ) (t : Bool) → no_divide (magnitude_of x) (magnitude_of y) ≡ t
    → DivisionLaw x y (cond t None (Some (record { quotient = signed_word (xor (is_negative x) (is_negative y)) (magnitude_of x / magnitude_of y); remainder = signed_word (is_negative x) (magnitude_of x % magnitude_of y) })))
law-at x y true e = refused x y e
law-at x y false e = divided x y (apart (magnitude_of x) (magnitude_of y) e)

pub division_law : (x y : ℕ) (r : Option Division) → r ≡ division_of x y → DivisionLaw x y r
unfolding division_of
division_law x y r e = subst (DivisionLaw x y) (sym e) (law-at x y (no_divide (magnitude_of x) (magnitude_of y)) refl)
