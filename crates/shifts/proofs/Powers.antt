-- Quotients and remainders by powers of two, over any width.
use Rattle.std.proofs.Common.{◌≡◌, ℕ, ◌+◌, ◌-◌, ◌*◌, ◌/◌, ◌%◌, ◌^◌, ◌<◌, ◌≤◌, sym, ap, ◌∙◌, subst, lt_of_lt_of_le, mul_assoc, add-mul, mul-lt-mul_of_pos_right, arith, pow_mono}
use Rattle.std.proofs.lemmas.Nat.{pow_pos, pow-add, mod_below, mod_low, shr_split}
use lib.Pow.{mod-mod-pow}
use native.Mathlib.Nat.{mul-mod_left, div-eq_of_lt}

-- nothing is left of what is moved past the end
pub past-left : (m n width : ℕ) → width ≤ n → m * 2 ^ n % 2 ^ width ≡ 0
past-left m n width l =
    let s : n ≡ (n - width) + width = omega arith in
    let p : 2 ^ n ≡ 2 ^ (n - width) * 2 ^ width = ap (λ (k : ℕ). 2 ^ k) s ∙ pow-add 2 (n - width) width in
    let q : m * 2 ^ n ≡ m * 2 ^ (n - width) * 2 ^ width = ap (λ (x : ℕ). m * x) p ∙ sym (mul_assoc m (2 ^ (n - width)) (2 ^ width)) in
    ap (λ (x : ℕ). x % 2 ^ width) q ∙ mul-mod_left (m * 2 ^ (n - width)) (2 ^ width)

pub past-right : (m n width : ℕ) → m < 2 ^ width → width ≤ n → m / 2 ^ n ≡ 0
past-right m n width h l = div-eq_of_lt (lt_of_lt_of_le h (pow_mono l))

-- what is moved to the left in a wider register, and cut to the width there
pub cut_shl : (m n width register : ℕ) → width ≤ register → m * 2 ^ n % 2 ^ register % 2 ^ width ≡ m * 2 ^ n % 2 ^ width
cut_shl m n width register l =
    let s : (register - width) + width ≡ register = omega arith in
    subst (λ (x : ℕ). m * 2 ^ n % 2 ^ x % 2 ^ width ≡ m * 2 ^ n % 2 ^ width) s (mod-mod-pow (m * 2 ^ n) (register - width) width)

-- of j + k bits that move k places to the left, the j lowest stay
pub shl-mod : (m j k : ℕ) → m * 2 ^ k % 2 ^ (j + k) ≡ m % 2 ^ j * 2 ^ k
shl-mod m j k =
    let p = pow-add 2 j k in
    let s : m * 2 ^ k ≡ m / 2 ^ j * 2 ^ (j + k) + m % 2 ^ j * 2 ^ k =
    ap (λ (x : ℕ). x * 2 ^ k) (sym (shr_split m j)) ∙ add-mul (m / 2 ^ j * 2 ^ j) (m % 2 ^ j) (2 ^ k)
    ∙ ap (λ (x : ℕ). x + m % 2 ^ j * 2 ^ k) (mul_assoc (m / 2 ^ j) (2 ^ j) (2 ^ k) ∙ ap (λ (x : ℕ). m / 2 ^ j * x) (sym p)) in
    let b : m % 2 ^ j * 2 ^ k < 2 ^ (j + k) = subst (λ (x : ℕ). m % 2 ^ j * 2 ^ k < x) (sym p) (mul-lt-mul_of_pos_right (mod_below m (2 ^ j) (pow_pos j)) (pow_pos k)) in
    ap (λ (x : ℕ). x % 2 ^ (j + k)) s ∙ mod_low (m / 2 ^ j) (j + k) (m % 2 ^ j * 2 ^ k) b

-- of a number of `width` bits that moves n places to the left, the lowest bits stay
pub shl-low : (m n width : ℕ) → n ≤ width → m * 2 ^ n % 2 ^ width ≡ m % 2 ^ (width - n) * 2 ^ n
shl-low m n width l =
    let s : width ≡ (width - n) + n = omega arith in
    ap (λ (x : ℕ). m * 2 ^ n % 2 ^ x) s ∙ shl-mod m (width - n) n

-- what has at most 72 bits is far below the limit of a register
pub far-below : (m width : ℕ) → width ≤ 72 → m < 2 ^ width → m < 2 ^ 72
far-below m width l h = lt_of_lt_of_le h (pow_mono l)
