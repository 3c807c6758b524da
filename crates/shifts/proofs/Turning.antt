-- A rotation keeps the width, and the same rotation back gives the number again.
use Rattle.std.proofs.Common.{◌≡◌, ℕ, ◌+◌, ◌-◌, ◌*◌, ◌/◌, ◌%◌, ◌^◌, ◌<◌, ◌≤◌, sym, ap, ◌∙◌, subst, ap₂, add-zero, mod-eq_of_lt, mul_comm, add_comm, zero-add, zero-mul, mul-one, div-one, arith}
use Rattle.shifts.proofs.Directions.{Opposed, left-right, right-left, left-still, right-still, opposed}
use Rattle.shifts.proofs.Pairing.{paired_low, paired-below, paired-halves, halves-paired}
use Rattle.shifts.proofs.Powers.{far-below, shl-low}
use Rattle.shifts.specs.Distance.{distance_of, opposite}
use Rattle.shifts.specs.Pair.{paired, halves}
use Rattle.shifts.specs.Rotations.{exchanged, turned, rotated, rotated_pair, RotatedThereAndBack, RotatedPairThereAndBack}
use Rattle.shifts.specs.declared.distances.Distance.{Distance}
use Rattle.shifts.specs.declared.distances.Distance.TheVariants.{Left, Right}
use Rattle.std.proofs.lemmas.Nat.{pow_pos, pow-add, mod_below, mod_low, mul-add-lt, shr_below, shr_high, shr_split}
use native.Mathlib.Nat.{div-eq_of_lt, mod-one, sub-zero, zero-mod}

high-below : (j k m : ℕ) → m < 2 ^ (j + k) → m / 2 ^ j < 2 ^ k
high-below j k m h = shr_below m k j (subst (λ (x : ℕ). m < 2 ^ x) (add_comm j k) h)

pub exchanged-below : (j k m : ℕ) → m < 2 ^ (j + k) → exchanged j k m < 2 ^ (j + k)
exchanged-below j k m h =
    let b = mul-add-lt (m % 2 ^ j) (2 ^ k) (m / 2 ^ j) (2 ^ j) (mod_below m (2 ^ j) (pow_pos j)) (high-below j k m h) in
    subst (λ (x : ℕ). exchanged j k m < x) (mul_comm (2 ^ k) (2 ^ j) ∙ sym (pow-add 2 j k)) b

pub exchanged-back : (j k m : ℕ) → m < 2 ^ (j + k) → exchanged k j (exchanged j k m) ≡ m
exchanged-back j k m h =
    let l = high-below j k m h in
    ap₂ (λ (x y : ℕ). x * 2 ^ j + y) (mod_low (m % 2 ^ j) k (m / 2 ^ j) l) (shr_high (m % 2 ^ j) k (m / 2 ^ j) l) ∙ shr_split m j

-- what passes the left end, and the rest
turned-parts : (m n width l r : ℕ) → n ≤ width → m < 2 ^ width → l ≡ m * 2 ^ n % 2 ^ width → r ≡ m / 2 ^ (width - n) → (l + r ≡ exchanged (width - n) n m) × (l + r < 2 ^ width)
turned-parts m n width l r k h p q =
    let s : (width - n) + n ≡ width = omega arith in
    let e : l + r ≡ exchanged (width - n) n m = ap₂ (λ (x y : ℕ). x + y) (p ∙ shl-low m n width k) q in
    (e, subst (λ (x : ℕ). x < 2 ^ width) (sym e) (subst (λ (x : ℕ). exchanged (width - n) n m < 2 ^ x) s (exchanged-below (width - n) n m (subst (λ (x : ℕ). m < 2 ^ x) (sym s) h))))

pub turned_is : (m n width l r : ℕ) → n ≤ width → m < 2 ^ width → l ≡ m * 2 ^ n % 2 ^ width → r ≡ m / 2 ^ (width - n) → l + r ≡ exchanged (width - n) n m
turned_is m n width l r k h p q = (turned-parts m n width l r k h p q).0

pub turned_narrow : (m n width l r : ℕ) → n ≤ width → m < 2 ^ width → l ≡ m * 2 ^ n % 2 ^ width → r ≡ m / 2 ^ (width - n) → l + r < 2 ^ width
turned_narrow m n width l r k h p q = (turned-parts m n width l r k h p q).1

pub turned_fits : (m n width l r : ℕ) → width ≤ 72 → n ≤ width → m < 2 ^ width → l ≡ m * 2 ^ n % 2 ^ width → r ≡ m / 2 ^ (width - n) → l + r < 2 ^ 128
turned_fits m n width l r w k h p q = omega (arith, far-below (l + r) width w (turned_narrow m n width l r k h p q))

pub ruleset turned_parts = (turned_is, turned_narrow, turned_fits)

-- the two parts that change places make up the number
parts : (n width : ℕ) → 0 < width → (width - n % width) + n % width ≡ width
parts n width p = omega (arith, mod_below n width p)

parts' : (n width : ℕ) → 0 < width → n % width + (width - n % width) ≡ width
parts' n width p = omega (arith, mod_below n width p)

pub turned-below : (width m : ℕ) (d : Distance) → 0 < width → m < 2 ^ width → turned width m d < 2 ^ width
turned-below width m (Left n) p h =
    let s = parts n width p in
    subst (λ (x : ℕ). turned width m (Left n) < 2 ^ x) s (exchanged-below (width - n % width) (n % width) m (subst (λ (x : ℕ). m < 2 ^ x) (sym s) h))
turned-below width m (Right n) p h =
    let s = parts' n width p in
    subst (λ (x : ℕ). turned width m (Right n) < 2 ^ x) s (exchanged-below (n % width) (width - n % width) m (subst (λ (x : ℕ). m < 2 ^ x) (sym s) h))

still-left : (width m : ℕ) → m < 2 ^ width → turned width m (Left 0) ≡ m
still-left width m h =
    let l : m % 2 ^ width ≡ m = mod-eq_of_lt h in
    let z : m / 2 ^ width ≡ 0 = div-eq_of_lt h in
    simp (zero-mod, sub-zero, l, z, mul-one, add-zero)

still-right : (width m : ℕ) → turned width m (Right 0) ≡ m
still-right width m = simp (zero-mod, sub-zero, mod-one, div-one, zero-mul, zero-add)

pub turned-back : (width m : ℕ) {d o : Distance} → 0 < width → m < 2 ^ width → Opposed d o → turned width (turned width m d) o ≡ m
turned-back width m p h (left-right n) = exchanged-back (width - n % width) (n % width) m (subst (λ (x : ℕ). m < 2 ^ x) (sym (parts n width p)) h)
turned-back width m p h (right-left n) = exchanged-back (n % width) (width - n % width) m (subst (λ (x : ℕ). m < 2 ^ x) (sym (parts' n width p)) h)
turned-back width m p h left-still = ap (λ (x : ℕ). turned width x (Left 0)) (still-left width m h) ∙ still-left width m h
turned-back width m p h right-still = ap (λ (x : ℕ). turned width x (Right 0)) (still-right width m) ∙ still-right width m

pub rotated_back : (w e r : ℕ) → r ≡ turned 36 (w % 2 ^ 36) (distance_of e) → RotatedThereAndBack w e r
unfolding rotated
rotated_back w e r v =
    let h : w % 2 ^ 36 < 2 ^ 36 = omega arith in
    let same : r % 2 ^ 36 ≡ r = mod-eq_of_lt (subst (λ (x : ℕ). x < 2 ^ 36) (sym v) (turned-below 36 (w % 2 ^ 36) (distance_of e) (omega arith) h)) in
    ap (λ (x : ℕ). turned 36 x (distance_of (opposite e))) (same ∙ v) ∙ turned-back 36 (w % 2 ^ 36) (omega arith) h (opposed e)

-- x and y are the two words that are turned, and r and s what they become
pub rotated_pair_back : (a b e x y r s : ℕ) → ◌≡◌ {A = ℕ × ℕ} (x, y) (a % 2 ^ 36, b % 2 ^ 36) → ◌≡◌ {A = ℕ × ℕ} (r, s) (halves (turned 72 (paired x y) (distance_of e))) → RotatedPairThereAndBack a b e (r, s)
unfolding rotated_pair
rotated_pair_back a b e x y r s u w =
    let v = w ∙ ap (λ (m : ℕ). halves (turned 72 m (distance_of e))) (paired_low a b u) in
    let h = paired-below a b in
    let m = turned 72 (paired a b) (distance_of e) in
    let same : paired (halves m).0 (halves m).1 ≡ m = paired-halves m (turned-below 72 (paired a b) (distance_of e) (omega arith) h) in
    ap (λ (x : ℕ × ℕ). halves (turned 72 (paired x.0 x.1) (distance_of (opposite e)))) v
    ∙ ap (λ (x : ℕ). halves (turned 72 x (distance_of (opposite e)))) same ∙ ap halves (turned-back 72 (paired a b) (omega arith) h (opposed e)) ∙ halves-paired a b
