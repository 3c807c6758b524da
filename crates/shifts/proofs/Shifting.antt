-- A logical shift keeps the width, and the same shift back gives what did not pass the end.
use Rattle.std.proofs.Common.{◌≡◌, ℕ, ◌+◌, ◌-◌, ◌*◌, ◌/◌, ◌%◌, ◌^◌, ◌<◌, ◌≤◌, sym, ap, ◌∙◌, subst, ⊎_elim, mod-eq_of_lt, mul-one, div-one, arith}
use Rattle.shifts.proofs.Directions.{Opposed, left-right, right-left, left-still, right-still, opposed}
use Rattle.shifts.proofs.Pairing.{paired_low, paired-below, paired-halves}
use Rattle.shifts.proofs.Powers.{past-left, shl-mod}
use Rattle.shifts.specs.Distance.{distance_of, opposite}
use Rattle.shifts.specs.Logical.{shifted, kept, logical, logical_pair, LogicalThereAndBack, LogicalPairThereAndBack}
use Rattle.shifts.specs.Pair.{paired, halves}
use Rattle.shifts.specs.declared.distances.Distance.{Distance}
use Rattle.shifts.specs.declared.distances.Distance.TheVariants.{Left, Right}
use Rattle.std.proofs.lemmas.Nat.{pow_pos, mod_below, shr_le, shl-shr, shr_split}
use Rattle.std.proofs.lemmas.Bool.{cases_lt}
use native.Mathlib.Nat.{mod-one, sub-zero, zero-div}

pub shifted-below : (width m : ℕ) (d : Distance) → m < 2 ^ width → shifted width m d < 2 ^ width
shifted-below width m (Left n) h = mod_below (m * 2 ^ n) (2 ^ width) (pow_pos width)
shifted-below width m (Right n) h = omega (arith, shr_le m n)

left-and-back : (width m n : ℕ) → m * 2 ^ n % 2 ^ width / 2 ^ n ≡ m % 2 ^ (width - n)
left-and-back width m n =
    ⊎_elim
    (λ (l : width < n).
    let z : width - n ≡ 0 = omega arith in
    let k : width ≤ n = omega arith in
    ap (λ (x : ℕ). x / 2 ^ n) (past-left m n width k) ∙ zero-div (2 ^ n) ∙ sym (mod-one m) ∙ ap (λ (x : ℕ). m % 2 ^ x) (sym z))
    (λ (l : n ≤ width).
    let s : width ≡ (width - n) + n = omega arith in
    ap (λ (x : ℕ). m * 2 ^ n % 2 ^ x / 2 ^ n) s ∙ ap (λ (x : ℕ). x / 2 ^ n) (shl-mod m (width - n) n) ∙ shl-shr (m % 2 ^ (width - n)) n)
    (cases_lt width n)

pub shifted_back : (width m : ℕ) {d o : Distance} → m < 2 ^ width → Opposed d o → shifted width (shifted width m d) o ≡ kept width m d
shifted_back width m h (left-right n) = left-and-back width m n
shifted_back width m h (right-left n) = mod-eq_of_lt (omega (arith, shr_split m n))
shifted_back width m h left-still = let e : m % 2 ^ width ≡ m = mod-eq_of_lt h in simp (mul-one, sub-zero, e)
shifted_back width m h right-still = simp (div-one, mul-one)

pub logical_back : (w e r : ℕ) → r ≡ shifted 36 (w % 2 ^ 36) (distance_of e) → LogicalThereAndBack w e r
unfolding logical
logical_back w e r v =
    let h : w % 2 ^ 36 < 2 ^ 36 = omega arith in
    let same : r % 2 ^ 36 ≡ r = mod-eq_of_lt (subst (λ (x : ℕ). x < 2 ^ 36) (sym v) (shifted-below 36 (w % 2 ^ 36) (distance_of e) h)) in
    ap (λ (x : ℕ). shifted 36 x (distance_of (opposite e))) (same ∙ v) ∙ shifted_back 36 (w % 2 ^ 36) h (opposed e)

-- x and y are the two words that are shifted, and r and s what they become
pub logical_pair_back : (a b e x y r s : ℕ) → ◌≡◌ {A = ℕ × ℕ} (x, y) (a % 2 ^ 36, b % 2 ^ 36) → ◌≡◌ {A = ℕ × ℕ} (r, s) (halves (shifted 72 (paired x y) (distance_of e))) → LogicalPairThereAndBack a b e (r, s)
unfolding logical_pair
logical_pair_back a b e x y r s u w =
    let v = w ∙ ap (λ (m : ℕ). halves (shifted 72 m (distance_of e))) (paired_low a b u) in
    let h = paired-below a b in
    let m = shifted 72 (paired a b) (distance_of e) in
    let same : paired (halves m).0 (halves m).1 ≡ m = paired-halves m (shifted-below 72 (paired a b) (distance_of e) h) in
    ap (λ (x : ℕ × ℕ). halves (shifted 72 (paired x.0 x.1) (distance_of (opposite e)))) v
    ∙ ap (λ (x : ℕ). halves (shifted 72 x (distance_of (opposite e)))) same ∙ ap halves (shifted_back 72 (paired a b) h (opposed e))
