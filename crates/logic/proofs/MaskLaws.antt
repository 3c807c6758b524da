-- What the test instructions do to single bits.
use Rattle.std.proofs.Common.{◌≡◌, ℕ, ◌+◌, ◌-◌, ◌%◌, ◌<◌, min, max, Bool, eqb, Decides, sym, refl, ap, ◌∙◌, subst, arith}
use Rattle.logic.proofs.BitLaws.{Bitwise, both, differing, each-pair, either, first, other-second, second}
use Rattle.words.specs.Bits.{bit, word}
use Rattle.logic.specs.Masks.{Changes, MaskedZero, Skips, changed_bit, changed_by, skips_when}
use Rattle.logic.specs.declared.masks.Change.{Change}
use Rattle.logic.specs.declared.masks.Change.TheVariants.{Complement, Ones, Unchanged, Zeros}
use Rattle.logic.specs.declared.masks.SkipWhen.{SkipWhen}
use Rattle.logic.specs.declared.masks.SkipWhen.TheVariants.{AllMaskedEqualZero, Always, Never, NotAllMaskedEqualZero}
use Rattle.std.proofs.lemmas.Bool.{false≢true}
use Rattle.std.proofs.lemmas.Bool.Decides.{Decides-at, Decides-eqb, Decides-like, Decides-not}
use Rattle.std.proofs.lemmas.Nat.{pow_pos}
use Rattle.std.proofs.lemmas.Nat.Bits.{bit_at-lt, bit_at-zero, same_from_bits_below}
use lib.Bits.{bit_and}

-- where each masked bit is 0, so is each bit that the mask lets through
none_masked : (b c : ℕ) → c < 2 → (c ≡ 1 → b ≡ 0) → min b c ≡ 0
none_masked b c l z = grind arith

module _ (ac mask : ℕ) where
  -- a word with the bits f of the accumulator's and the mask's is changed as said if f keeps the bits outside the mask
  by_bits : {r : ℕ} (change : Change) (f : ℕ → ℕ → ℕ) → Bitwise ac mask r f → f 0 0 ≡ 0 → f 1 0 ≡ 1 → f 0 1 ≡ changed_bit change 0 → f 1 1 ≡ changed_bit change 1 → Changes change ac mask r
  by_bits {r} change f h p q u v =
      let P : ℕ → ℕ → Type 0 = λ b c. (c ≡ 1 → f b c ≡ changed_bit change b) × (c ≡ 0 → f b c ≡ b) in
      let each = each-pair P (λ e. omega arith, λ _. p) (λ _. u, λ e. omega arith) (λ e. omega arith, λ _. q) (λ _. v, λ e. omega arith) in
      let at : (k : ℕ) → P (bit ac k) (bit mask k) = λ k. each (bit ac k) (bit mask k) (bit_at-lt ac k) (bit_at-lt mask k) in
      record { masked = λ k l e. h.bits k l ∙ (at k).0 e; others = λ k l e. h.bits k l ∙ (at k).1 e }

  changed_by-law : (change : Change) → Changes change ac mask (changed_by change ac mask)
  unfolding changed_by
  changed_by-law Unchanged = by_bits Unchanged (λ b _. b) first refl refl refl refl
  changed_by-law Zeros = by_bits Zeros (λ b c. min b (1 - c)) (both first other-second) refl refl refl refl
  changed_by-law Complement = by_bits Complement (λ b c. (b + c) % 2) (differing first second) refl refl refl refl
  changed_by-law Ones = by_bits Ones (λ b c. max b c) (either first second) refl refl refl refl

  abbrev masked : ℕ
  masked = bit_and (word ac) (word mask)

  masked-bits : Bitwise ac mask masked (λ b c. min b c)
  masked-bits = both first second

  zero-from : masked ≡ 0 → MaskedZero ac mask
  zero-from z k l e = omega (arith, masked-bits.bits k l, ap (λ n. bit n k) z, bit_at-zero k)

  zero-back : MaskedZero ac mask → masked ≡ 0
  zero-back z = same_from_bits_below 36 masked 0 masked-bits.narrow (pow_pos 36) (λ k l. masked-bits.bits k l ∙ none_masked (bit ac k) (bit mask k) (bit_at-lt mask k) (z k l) ∙ sym (bit_at-zero k))

  decides-zero : Decides (eqb masked 0) (MaskedZero ac mask)
  decides-zero = Decides-like (eqb masked 0) zero-from zero-back (Decides-eqb masked 0)

  skips_when-law : (when : SkipWhen) → Decides (skips_when when ac mask) (Skips when ac mask)
  unfolding skips_when
  skips_when-law Never = (λ e. absurd (false≢true e), λ e. absurd e)
  skips_when-law AllMaskedEqualZero = decides-zero
  skips_when-law Always = (λ _. tt, λ _. refl)
  skips_when-law NotAllMaskedEqualZero = Decides-not (eqb masked 0) decides-zero

pub change_law : (change : Change) (ac mask r : ℕ) → r ≡ changed_by change ac mask → Changes change ac mask r
change_law change ac mask r e = subst (Changes change ac mask) (sym e) (changed_by-law ac mask change)

pub skip_law : (when : SkipWhen) (ac mask : ℕ) (answer : Bool) → answer ≡ skips_when when ac mask → Decides answer (Skips when ac mask)
skip_law when ac mask answer e = Decides-at answer (skips_when when ac mask) e (skips_when-law ac mask when)
