-- The bits beside a sign: which are lost at the left, and what comes in there.
use Rattle.std.proofs.Common.{◌≡◌, ℕ, ◌+◌, ◌-◌, ◌*◌, ◌/◌, ◌%◌, ◌^◌, ◌<◌, ◌≤◌, Bool, true, false, cond, not, eqb, sym, ap, ◌∙◌, subst, ap₂, ⊎_elim, mul-le-mul_right, mul_comm, add-mul, zero-mul, arith, pow_mono}
use Rattle.shifts.proofs.Powers.{far-below, past-right}
use Rattle.shifts.specs.Arithmetic.{moved_beside, overflows}
use Rattle.shifts.specs.declared.distances.Distance.{Distance}
use Rattle.shifts.specs.declared.distances.Distance.TheVariants.{Left, Right}
use Rattle.std.proofs.lemmas.Nat.{pow_pos, pow-add, pow_below, mod_below, div-add-mod', div-mul-add, mod-mul-add, le-div, shr_below, shr_le}
use Rattle.std.proofs.lemmas.Bool.{cases_eq, cases_lt, ne_eqb}
use native.Mathlib.Nat.{mul-div-mul_right, zero-div}

pub lost-is : (m n width : ℕ) → n ≤ width → m * 2 ^ n / 2 ^ width ≡ m / 2 ^ (width - n)
lost-is m n width l =
    let s : width ≡ (width - n) + n = omega arith in
    ap (λ (x : ℕ). m * 2 ^ n / x) (ap (λ (x : ℕ). 2 ^ x) s ∙ pow-add 2 (width - n) n) ∙ mul-div-mul_right m (2 ^ (width - n)) (pow_pos n)

-- m and d make up L. Of m * p, p - 1 times L are lost just where d * p is at most L
pub all-signs : (m d p L : ℕ) → m + d ≡ L → 0 < d → 0 < p → d * p ≤ L → (m * p / L ≡ p - 1) × (m * p % L + d * p ≡ L)
all-signs m d p L e q r h =
    let t : m * p + d * p ≡ L * p = sym (add-mul m d p) ∙ ap (λ (x : ℕ). x * p) e in
    let u : (p - 1) * L + 1 * L ≡ p * L = sym (add-mul (p - 1) 1 L) ∙ ap (λ (x : ℕ). x * L) (omega arith) in
    let v : 1 * p ≤ d * p = mul-le-mul_right p q in
    let c = mul_comm p L in
    let s : m * p ≡ (p - 1) * L + (L - d * p) = omega arith in
    let b : L - d * p < L = omega arith in
    (ap (λ (x : ℕ). x / L) s ∙ div-mul-add (p - 1) L (L - d * p) b, omega (arith, ap (λ (x : ℕ). x % L) s ∙ mod-mul-add (p - 1) L (L - d * p) b))

pub all-signs-fit : (m d p L : ℕ) → m + d ≡ L → 0 < p → m * p / L ≡ p - 1 → d * p ≤ L
all-signs-fit m d p L e r h =
    let t : m * p + d * p ≡ L * p = sym (add-mul m d p) ∙ ap (λ (x : ℕ). x * p) e in
    let u : (p - 1) * L + 1 * L ≡ p * L = sym (add-mul (p - 1) 1 L) ∙ ap (λ (x : ℕ). x * L) (omega arith) in
    let c = mul_comm p L in
    let s : (p - 1) * L + m * p % L ≡ m * p = ap (λ (x : ℕ). x * L + m * p % L) (sym h) ∙ div-add-mod' (m * p) L in
    omega arith

-- to the left, within the width: the bits that would be lost are looked at before they are
pub lost_few : (m n width : ℕ) (minus : Bool) (lost signs : ℕ) → n ≤ width → lost ≡ m / 2 ^ (width - n) → signs ≡ cond minus (2 ^ n - 1) 0 → not (eqb lost signs) ≡ overflows width minus m (Left n)
lost_few m n width minus lost signs l p e = ap₂ (λ (x y : ℕ). not (eqb x y)) (p ∙ sym (lost-is m n width l)) e

-- past the width a 0 is lost that came in at the right
past-minus : (m n width : ℕ) → m < 2 ^ width → width < n → true ≡ overflows width true m (Left n)
past-minus m n width h l =
    let d = 2 ^ width - m in
    let e : m + d ≡ 2 ^ width = omega arith in
    let g : 1 * 2 ^ n ≤ d * 2 ^ n = mul-le-mul_right (2 ^ n) (omega arith) in
    let p = pow_below width n l in
    sym (ap not (ne_eqb (m * 2 ^ n / 2 ^ width) (2 ^ n - 1) (λ f. omega (arith, all-signs-fit m d (2 ^ n) (2 ^ width) e (pow_pos n) f))))

past-plus : (m n width : ℕ) → width < n → not (eqb m 0) ≡ overflows width false m (Left n)
past-plus m n width l =
    ⊎_elim
    (λ (z : m ≡ 0). sym (ap (λ (x : ℕ). overflows width false x (Left n)) z ∙ ap (λ (x : ℕ). not (eqb (x / 2 ^ width) 0)) (zero-mul (2 ^ n)) ∙ ap (λ (x : ℕ). not (eqb x 0)) (zero-div (2 ^ width) ∙ sym z)))
    (λ (z : m ≡ 0 → ⊥).
    let g : 1 * 2 ^ n ≤ m * 2 ^ n = mul-le-mul_right (2 ^ n) (omega arith) in
    let p = pow_below width n l in
    let q : 1 ≤ m * 2 ^ n / 2 ^ width = le-div 1 (m * 2 ^ n) (2 ^ width) (pow_pos width) (omega arith) in
    ap not (ne_eqb m 0 z ∙ sym (ne_eqb (m * 2 ^ n / 2 ^ width) 0 (λ f. omega arith))))
    (cases_eq m 0)

pub lost_minus : (m n width : ℕ) (minus : Bool) → m < 2 ^ width → width < n → minus ≡ true → minus ≡ overflows width minus m (Left n)
lost_minus m n width minus h l e = rw e (past-minus m n width h l)

pub lost_plus : (m n width : ℕ) (minus : Bool) → width < n → minus ≡ false → not (eqb m 0) ≡ overflows width minus m (Left n)
lost_plus m n width minus l e = rw e (past-plus m n width l)

pub ruleset lost = (lost_few, lost_minus, lost_plus)

-- to the right, bits equal to the sign come in
pub moved-in : (n width : ℕ) (minus : Bool) (all rest : ℕ) → all ≡ cond minus (2 ^ width - 1) 0 → rest ≡ cond minus (2 ^ (width - n) - 1) 0 → (rest ≤ all) × (all - rest ≡ cond minus (2 ^ width - 2 ^ (width - n)) 0)
moved-in n width true all rest p q =
    let l : 2 ^ (width - n) ≤ 2 ^ width = pow_mono {i = width - n} {j = width} (omega arith) in
    (omega arith, omega (arith, pow_pos (width - n)))
moved-in n width false all rest p q = (omega arith, omega arith)

-- what is moved stays within the width
pub moved-below : (width : ℕ) (minus : Bool) (m : ℕ) (d : Distance) → m < 2 ^ width → moved_beside width minus m d < 2 ^ width
moved-below width minus m (Left n) h = mod_below (m * 2 ^ n) (2 ^ width) (pow_pos width)
moved-below width false m (Right n) h = omega (arith, shr_le m n)
moved-below width true m (Right n) h =
    ⊎_elim
    (λ (l : width < n).
    let z : width - n ≡ 0 = omega arith in
    let p : 2 ^ (width - n) ≡ 1 = ap (λ (x : ℕ). 2 ^ x) z in
    omega (arith, past-right m n width h (omega arith), pow_pos width))
    (λ (l : n ≤ width).
    let s : width ≡ (width - n) + n = omega arith in
    let b = shr_below m (width - n) n (subst (λ (x : ℕ). m < 2 ^ x) s h) in
    let le : 2 ^ (width - n) ≤ 2 ^ width = pow_mono {i = width - n} {j = width} (omega arith) in
    omega arith)
    (cases_lt width n)

-- what stays of the number, and the bits that come in beside it
right-parts : (m n width : ℕ) (minus : Bool) (k all rest kept : ℕ) → m < 2 ^ width → all ≡ cond minus (2 ^ width - 1) 0 → k ≡ width - n → rest ≡ cond minus (2 ^ k - 1) 0 → kept ≡ m / 2 ^ n → (kept + (all - rest) ≡ moved_beside width minus m (Right n)) × (kept + (all - rest) < 2 ^ width)
right-parts m n width minus k all rest kept h p e q r =
    let i = moved-in n width minus all rest p (q ∙ ap (λ (x : ℕ). cond minus (2 ^ x - 1) 0) e) in
    let s : kept + (all - rest) ≡ moved_beside width minus m (Right n) = ap₂ (λ (x y : ℕ). x + y) r i.1 in
    (s, subst (λ (x : ℕ). x < 2 ^ width) (sym s) (moved-below width minus m (Right n) h))

module _ (m n width : ℕ) (minus : Bool) (k all rest kept : ℕ) (h : m < 2 ^ width) (p : all ≡ cond minus (2 ^ width - 1) 0) (e : k ≡ width - n) (q : rest ≡ cond minus (2 ^ k - 1) 0) where
  pub right_within : rest ≤ all
  right_within = (moved-in n width minus all rest p (q ∙ ap (λ (x : ℕ). cond minus (2 ^ x - 1) 0) e)).0

  pub right_is : kept ≡ m / 2 ^ n → kept + (all - rest) ≡ moved_beside width minus m (Right n)
  right_is r = (right-parts m n width minus k all rest kept h p e q r).0

  pub right_narrow : kept ≡ m / 2 ^ n → kept + (all - rest) < 2 ^ width
  right_narrow r = (right-parts m n width minus k all rest kept h p e q r).1

  pub right_fits : width ≤ 72 → kept ≡ m / 2 ^ n → kept + (all - rest) < 2 ^ 128
  right_fits w r = omega (arith, far-below (kept + (all - rest)) width w (right_narrow r))

pub ruleset right_parts = (right_within, right_is, right_narrow, right_fits)
