-- An arithmetic shift multiplies or divides a signed value by a power of two.
use Rattle.std.proofs.Common.{◌≡◌, ℕ, suc, ◌+◌, ◌-◌, ◌*◌, ◌/◌, ◌%◌, ◌^◌, ◌<◌, ◌≤◌, Bool, true, false, cond, not, eqb, ℤ, pos, negsuc, ◌+ℤ◌, ◌-ℤ◌, ◌*ℤ◌, ◌<ℤ◌, sym, refl, ap, ◌∙◌, subst, ap₂, ⊎_elim, add-zero, mod-eq_of_lt, add-mul, div-mul-le_self, arith, pow_mono}
use Rattle.shifts.proofs.Beside.{all-signs, all-signs-fit, moved-below}
use Rattle.shifts.proofs.Powers.{past-right}
use Rattle.shifts.specs.Arithmetic.{moved_beside, overflows, sign_bit}
use Rattle.words.specs.Signed.{is_negative as negative}
use Rattle.shifts.specs.Distance.{distance_of}
use Rattle.shifts.specs.Scaling.{Divided, Scaled, ArithmeticScales}
use Rattle.words.specs.Signed.{signed}
use Rattle.shifts.specs.declared.distances.Distance.{Distance}
use Rattle.shifts.specs.declared.distances.Distance.TheVariants.{Left, Right}
use Rattle.std.proofs.lemmas.Nat.{div-add-mod', mod_below, pow-add, pow_below, pow_pos, shr_below}
use Rattle.std.proofs.lemmas.Int.{ints}
use Rattle.std.proofs.lemmas.Bool.{cases_lt, eqb-true, eqb-false, le-leb, leb-false, leb-true, lt-leb, not-true, not-false}
use lib.IntN.{+ℤ_one, suc_ℤ-*ℤ}
use native.Mathlib.Nat.{div-eq_of_lt, lt-div-mul-add}

differ : (x y : ℕ) → not (eqb x y) ≡ true → x ≡ y → ⊥
differ x y e = eqb-false x y (not-true (eqb x y) e)

agree : (x y : ℕ) → not (eqb x y) ≡ false → x ≡ y
agree x y e = eqb-true x y (not-false (eqb x y) e)

-- what a sign and the bits beside it are worth
abbrev pub valued : ℕ → Bool → ℕ → ℤ
valued width minus m = cond minus (pos m -ℤ pos (2 ^ width)) (pos m)

below-zero : (m d l : ℕ) → m + suc d ≡ l → pos m -ℤ pos l ≡ negsuc d
below-zero m d l e = omega (arith, ints)

left-plus : (width m n : ℕ) → Scaled width (pos m) (Left n) (pos (m * 2 ^ n % 2 ^ width)) (not (eqb (m * 2 ^ n / 2 ^ width) 0))
left-plus width m n = record {
  exceeds = λ o r. differ (m * 2 ^ n / 2 ^ width) 0 o (div-eq_of_lt (omega (arith, ints, r.1)));
  fits = λ o.
      let q = agree (m * 2 ^ n / 2 ^ width) 0 o in
      let s : 0 * 2 ^ width + m * 2 ^ n % 2 ^ width ≡ m * 2 ^ n = ap (λ (x : ℕ). x * 2 ^ width + m * 2 ^ n % 2 ^ width) (sym q) ∙ div-add-mod' (m * 2 ^ n) (2 ^ width) in
      let b = mod_below (m * 2 ^ n) (2 ^ width) (pow_pos width) in
      (omega (arith, ints), omega (arith, ints));
  exact = λ r. ap pos (mod-eq_of_lt (omega (arith, ints, r.1)));
}

left-minus : (width m d n : ℕ) → m + suc d ≡ 2 ^ width → Scaled width (negsuc d) (Left n) (pos (m * 2 ^ n % 2 ^ width) -ℤ pos (2 ^ width)) (not (eqb (m * 2 ^ n / 2 ^ width) (2 ^ n - 1)))
left-minus width m d n e = record {
  exceeds = λ o r. differ (m * 2 ^ n / 2 ^ width) (2 ^ n - 1) o (all-signs m (suc d) (2 ^ n) (2 ^ width) e (omega arith) (pow_pos n) (omega (arith, ints, r.0))).0;
  fits = λ o.
      let f = all-signs-fit m (suc d) (2 ^ n) (2 ^ width) e (pow_pos n) (agree (m * 2 ^ n / 2 ^ width) (2 ^ n - 1) o) in
      (omega (arith, ints), omega (arith, ints, pow_pos width));
  exact = λ r.
      let s = (all-signs m (suc d) (2 ^ n) (2 ^ width) e (omega arith) (pow_pos n) (omega (arith, ints, r.0))).1 in
      omega (arith, ints);
}

right-plus : (m n : ℕ) → Divided (pos m) (2 ^ n) (pos (m / 2 ^ n)) false
right-plus m n =
    let l = div-mul-le_self m (2 ^ n) in
    let g = lt-div-mul-add {a = m} (pow_pos n) in
    let t = add-mul (m / 2 ^ n) 1 (2 ^ n) in
    record { at_most = omega (arith, ints); next-above = omega (arith, ints); never = refl }

right-minus : (m d t l p : ℕ) → m + suc d ≡ l → l ≤ m + suc t * p → m + suc t * p < l + p → Divided (negsuc d) p (negsuc t) false
right-minus m d t l p e g h =
    let s : (negsuc t +ℤ pos 1) *ℤ pos p ≡ (negsuc t *ℤ pos p) +ℤ pos p = ap (λ (z : ℤ). z *ℤ pos p) (+ℤ_one (negsuc t)) ∙ suc_ℤ-*ℤ (negsuc t) (pos p) in
    let b : negsuc d <ℤ ((negsuc t *ℤ pos p) +ℤ pos p) = omega (arith, ints) in
    record { at_most = omega (arith, ints); next-above = subst (λ (z : ℤ). negsuc d <ℤ z) (sym s) b; never = refl }

-- how far below zero a negative value is after it has moved to the right
quotient : (m n width : ℕ) → m < 2 ^ width → (t : ℕ) × (m / 2 ^ n + (2 ^ width - 2 ^ (width - n)) + suc t ≡ 2 ^ width) × (2 ^ width ≤ m + suc t * 2 ^ n) × (m + suc t * 2 ^ n < 2 ^ width + 2 ^ n)
quotient m n width h =
    ⊎_elim
    (λ (l : width < n).
    let z : width - n ≡ 0 = omega arith in
    let p : 2 ^ (width - n) ≡ 1 = ap (λ (x : ℕ). 2 ^ x) z in
    let q = past-right m n width h (omega arith) in
    let b = pow_below width n l in
    (0, omega arith, omega arith, omega arith))
    (λ (l : n ≤ width).
    let s : width ≡ (width - n) + n = omega arith in
    let p : 2 ^ width ≡ 2 ^ (width - n) * 2 ^ n = ap (λ (x : ℕ). 2 ^ x) s ∙ pow-add 2 (width - n) n in
    let b = shr_below m (width - n) n (subst (λ (x : ℕ). m < 2 ^ x) s h) in
    let k : 2 ^ (width - n) ≤ 2 ^ width = pow_mono {i = width - n} {j = width} (omega arith) in
    let t = 2 ^ (width - n) - suc (m / 2 ^ n) in
    let u : suc t + m / 2 ^ n ≡ 2 ^ (width - n) = omega arith in
    let v : suc t * 2 ^ n + m / 2 ^ n * 2 ^ n ≡ 2 ^ width = sym (add-mul (suc t) (m / 2 ^ n) (2 ^ n)) ∙ ap (λ (x : ℕ). x * 2 ^ n) u ∙ sym p in
    let f = div-mul-le_self m (2 ^ n) in
    let g = lt-div-mul-add {a = m} (pow_pos n) in
    (t, omega arith, omega arith, omega arith))
    (cases_lt width n)

pub scaled : (width : ℕ) (minus : Bool) (m : ℕ) (d : Distance) → m < 2 ^ width → Scaled width (valued width minus m) d (valued width minus (moved_beside width minus m d)) (overflows width minus m d)
scaled width false m (Left n) h = left-plus width m n
scaled width false m (Right n) h = subst (λ (x : ℕ). Divided (pos m) (2 ^ n) (pos x) false) (sym (add-zero (m / 2 ^ n))) (right-plus m n)
scaled width true m (Left n) h =
    let d = 2 ^ width - suc m in
    let e : m + suc d ≡ 2 ^ width = omega arith in
    subst (λ (z : ℤ). Scaled width z (Left n) (pos (m * 2 ^ n % 2 ^ width) -ℤ pos (2 ^ width)) (overflows width true m (Left n))) (sym (below-zero m d (2 ^ width) e)) (left-minus width m d n e)
scaled width true m (Right n) h =
    let d = 2 ^ width - suc m in
    let e : m + suc d ≡ 2 ^ width = omega arith in
    let t = quotient m n width h in
    let a = below-zero m d (2 ^ width) e in
    let b = below-zero (m / 2 ^ n + (2 ^ width - 2 ^ (width - n))) t.0 (2 ^ width) t.1 in
    subst (λ (z : ℤ). Divided z (2 ^ n) (pos (m / 2 ^ n + (2 ^ width - 2 ^ (width - n))) -ℤ pos (2 ^ width)) false) (sym a)
    (subst (λ (z : ℤ). Divided (negsuc d) (2 ^ n) z false) (sym b) (right-minus m d t.0 (2 ^ width) (2 ^ n) e t.2 t.3))

signed_is : (w : ℕ) → signed w ≡ valued 35 (negative w) (w % 2 ^ 35)
unfolding signed
signed_is w = by (negative w) refl
  where
    by : (t : Bool) → negative w ≡ t → cond t (pos (w % 2 ^ 36) -ℤ pos (2 ^ 36)) (pos (w % 2 ^ 36)) ≡ valued 35 t (w % 2 ^ 35)
    by true e = omega (arith, ints, leb-true (2 ^ 35) (w % 2 ^ 36) e)
    by false e = ap pos (omega (arith, leb-false (2 ^ 35) (w % 2 ^ 36) e))

-- the sign stays where the bits beside it change
pub sign-stays : (w m : ℕ) → m < 2 ^ 35 → negative (sign_bit w + m) ≡ negative w
sign-stays w m h =
    ⊎_elim
    (λ (l : w % 2 ^ 36 < 2 ^ 35). lt-leb (2 ^ 35) ((sign_bit w + m) % 2 ^ 36) (omega arith) ∙ sym (lt-leb (2 ^ 35) (w % 2 ^ 36) l))
    (λ (l : 2 ^ 35 ≤ w % 2 ^ 36). le-leb (2 ^ 35) ((sign_bit w + m) % 2 ^ 36) (omega arith) ∙ sym (le-leb (2 ^ 35) (w % 2 ^ 36) l))
    (cases_lt (w % 2 ^ 36) (2 ^ 35))

pub arithmetic_scales : (w e : ℕ) (r : ℕ × Bool) → r ≡ (sign_bit w + moved_beside 35 (negative w) (w % 2 ^ 35) (distance_of e), overflows 35 (negative w) (w % 2 ^ 35) (distance_of e)) → ArithmeticScales w e r
arithmetic_scales w e r v =
    let d = distance_of e in
    let h : w % 2 ^ 35 < 2 ^ 35 = omega arith in
    let m = moved_beside 35 (negative w) (w % 2 ^ 35) d in
    let b : m < 2 ^ 35 = moved-below 35 (negative w) (w % 2 ^ 35) d h in
    let o = overflows 35 (negative w) (w % 2 ^ 35) d in
    let s : signed (sign_bit w + m) ≡ valued 35 (negative w) m = signed_is (sign_bit w + m) ∙ ap₂ (valued 35) (sign-stays w m b) (omega arith) in
    subst (ArithmeticScales w e) (sym v)
    (subst (λ (z : ℤ). Scaled 35 z d (signed (sign_bit w + m)) o) (sym (signed_is w))
    (subst (λ (z : ℤ). Scaled 35 (valued 35 (negative w) (w % 2 ^ 35)) d z o) (sym s) (scaled 35 (negative w) (w % 2 ^ 35) d h)))
