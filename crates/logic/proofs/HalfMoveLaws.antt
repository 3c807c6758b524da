-- What a half-word move brings where.
use Rattle.std.proofs.Common.{◌≡◌, ℕ, ◌-◌, ◌*◌, ◌%◌, ◌^◌, ◌<◌, refl, ap, ◌∙◌, mod-eq_of_lt, arith, below_none, below_more}
use Rattle.std.proofs.lemmas.Nat.Bits.{bit_at-lt, bit_at-zero, bit_at_ones}
use Rattle.words.specs.Bits.{bit}
use Rattle.logic.specs.HalfMoves.{Moves, half, moved_half, opposite, placed, rest, rest_bit}
use Rattle.logic.specs.declared.half_words.Half.{Half}
use Rattle.logic.specs.declared.half_words.Half.TheVariants.{Left, Right}
use Rattle.logic.specs.declared.half_words.HalfMove.{HalfMove}
use Rattle.logic.specs.declared.half_words.Other.{Other}
use Rattle.logic.specs.declared.half_words.Other.TheVariants.{Extended, Kept, Ones, Zeros}

half-below : (s : Half) (w : ℕ) → half s w < 2 ^ 18
half-below Left w = omega arith
half-below Right w = omega arith

placed-this : (s : Half) (h g : ℕ) → half s (placed s h g) ≡ h % 2 ^ 18
placed-this Left h g = omega arith
placed-this Right h g = omega arith

placed-other : (s : Half) (h g : ℕ) → half (opposite s) (placed s h g) ≡ g % 2 ^ 18
placed-other Left h g = omega arith
placed-other Right h g = omega arith

-- a bit as many times as a half has bits
copies-bit : (k : ℕ) → k < 18 → (b : ℕ) → b < 2 → bit (b * (2 ^ 18 - 1)) k ≡ b
copies-bit k l =
    let P : ℕ → Type 0 = λ b. bit (b * (2 ^ 18 - 1)) k ≡ b in
    below_more P 1 (below_more P 0 (below_none P) (bit_at-zero k)) (bit_at_ones 18 k l)

rest_below : (o : Other) (h g : ℕ) → g < 2 ^ 18 → rest o h g < 2 ^ 18
rest_below Kept h g l = l
rest_below Zeros h g l = omega arith
rest_below Ones h g l = omega arith
rest_below Extended h g l = omega arith

rest-bit : (o : Other) (h g k : ℕ) → k < 18 → bit (rest o h g) k ≡ rest_bit o h (bit g k)
rest-bit Kept h g k l = refl
rest-bit Zeros h g k l = bit_at-zero k
rest-bit Ones h g k l = bit_at_ones 18 k l
rest-bit Extended h g k l = copies-bit k l (bit h 17) (bit_at-lt h 17)

move_law : (kind : HalfMove) (source destination r : ℕ) → r ≡ moved_half kind source destination → Moves kind source destination r
unfolding moved_half
move_law kind source destination r e =
    let s = kind.to in
    let h = half kind.from source in
    let stood = half (opposite s) destination in
    let g = rest kind.other h stood in
    let this : half s r ≡ h = ap (half s) e ∙ placed-this s h g ∙ mod-eq_of_lt (half-below kind.from source) in
    let that : half (opposite s) r ≡ g = ap (half (opposite s)) e ∙ placed-other s h g ∙ mod-eq_of_lt (rest_below kind.other h stood (half-below (opposite s) destination)) in
    (this, λ k l. ap (λ n. bit n k) that ∙ rest-bit kind.other h stood k l)

pub moved_there : (kind : HalfMove) (source destination r : ℕ) → r ≡ moved_half kind source destination → half kind.to r ≡ half kind.from source
moved_there kind source destination r e = (move_law kind source destination r e).0

pub rest_bits : (kind : HalfMove) (source destination r k : ℕ) → r ≡ moved_half kind source destination → k < 18 → bit (half (opposite kind.to) r) k ≡ rest_bit kind.other (half kind.from source) (bit (half (opposite kind.to) destination) k)
rest_bits kind source destination r k e l = (move_law kind source destination r e).1 k l

pub ruleset move_laws = (moved_there, rest_bits)
