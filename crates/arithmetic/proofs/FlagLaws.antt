-- What the raising of a flag does to each bit.
use Rattle.std.proofs.Common.{◌≡◌, ℕ, ◌/◌, ◌%◌, ◌^◌, ◌<◌, max, Bool, true, false, ◌&&◌, ◌||◌, eqb, sym, refl, subst, ap, ◌∙◌, arith}
use Rattle.arithmetic.specs.Flags.{raised, flags_after, is_set, FlagsLaw}
use Rattle.std.specs.Int.{bit_at}
use Rattle.std.proofs.lemmas.Bool.Decides.{nat_tests}
use Rattle.std.proofs.lemmas.Nat.{or_shr, or_mod}
use Rattle.std.proofs.lemmas.Nat.Bits.{bit_at-lt, bit_at_or}
use lib.Bits.{bit_or, or_zero_r}
use mathlib.Core.Bool.{xor, or-false, and-true, and-false}

either-one : (a b : ℕ) → a < 2 → b < 2 → eqb (max a b) 1 ≡ (eqb a 1 || eqb b 1)
either-one a b p q = grind (arith, nat_tests)

set-or : (k f m : ℕ) → is_set k (bit_or f m) ≡ (is_set k f || is_set k m)
set-or k f m = rw (bit_at_or f m k) (either-one (bit_at f k) (bit_at m k) (bit_at-lt f k) (bit_at-lt m k))

set-raised : (k : ℕ) (b : Bool) (flag f : ℕ) → is_set k (raised b flag f) ≡ (is_set k f || (b && is_set k flag))
set-raised k true flag f = set-or k f flag
set-raised k false flag f = sym (or-false (is_set k f))

set_after : (k f : ℕ) (c0 c1 : Bool) → is_set k (flags_after f c0 c1) ≡ (is_set k f || (xor c0 c1 && is_set k 0o400000) || (c0 && is_set k 0o200000) || (c1 && is_set k 0o100000))
unfolding flags_after
set_after k f c0 c1 =
    let one = raised (xor c0 c1) 0o400000 f in
    let two = raised c0 0o200000 one in
    set-raised k c1 0o100000 two
    ∙ ap (λ s. s || (c1 && is_set k 0o100000)) (set-raised k c0 0o200000 one ∙ ap (λ s. s || (c0 && is_set k 0o200000)) (set-raised k (xor c0 c1) 0o400000 f))

low-raised : (b : Bool) (flag f : ℕ) → flag % 2 ^ 15 ≡ 0 → raised b flag f % 2 ^ 15 ≡ f % 2 ^ 15
low-raised true flag f e = or_mod f flag 15 ∙ ap (bit_or (f % 2 ^ 15)) e ∙ or_zero_r (f % 2 ^ 15)
low-raised false flag f e = refl

high-raised : (b : Bool) (flag f : ℕ) → flag / 2 ^ 18 ≡ 0 → raised b flag f / 2 ^ 18 ≡ f / 2 ^ 18
high-raised true flag f e = or_shr f flag 18 ∙ ap (bit_or (f / 2 ^ 18)) e ∙ or_zero_r (f / 2 ^ 18)
high-raised false flag f e = refl

flags_after-law : (f : ℕ) (c0 c1 : Bool) → FlagsLaw f c0 c1 (flags_after f c0 c1)
unfolding flags_after
flags_after-law f c0 c1 =
    let one = raised (xor c0 c1) 0o400000 f in
    let two = raised c0 0o200000 one in
    record {
      overflow = set_after 17 f c0 c1 ∙ simp (and-true, and-false, or-false);
      carry-0 = set_after 16 f c0 c1 ∙ simp (and-true, and-false, or-false);
      carry-1 = set_after 15 f c0 c1 ∙ simp (and-true, and-false, or-false);
      below = low-raised c1 0o100000 two refl ∙ low-raised c0 0o200000 one refl ∙ low-raised (xor c0 c1) 0o400000 f refl;
      above = high-raised c1 0o100000 two refl ∙ high-raised c0 0o200000 one refl ∙ high-raised (xor c0 c1) 0o400000 f refl;
    }

pub flags_law : (f : ℕ) (c0 c1 : Bool) (r : ℕ) → r ≡ flags_after f c0 c1 → FlagsLaw f c0 c1 r
flags_law f c0 c1 r e = subst (FlagsLaw f c0 c1) (sym e) (flags_after-law f c0 c1)

-- flags stay a half of a word
pub half : (f : ℕ) (c0 c1 : Bool) (r : ℕ) → r ≡ flags_after f c0 c1 → f < 2 ^ 18 → r < 2 ^ 18
half f c0 c1 r e h = let same = (flags_law f c0 c1 r e).above in omega arith
