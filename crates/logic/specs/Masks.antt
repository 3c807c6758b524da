-- The test instructions: what they make of the accumulator's masked bits, and when they skip.
use Rattle.std.specs.Prelude.{◌≡◌, ℕ, ◌-◌, ◌/◌, ◌%◌, ◌<◌, Bool, true, false, not, ◌==◌, bit_and, bit_or, bit_xor}
use Rattle.words.specs.Bits.{bit, complement, word}
use Rattle.logic.specs.Codes.{pick}
use Rattle.logic.specs.declared.masks.Change.{Change}
use Rattle.logic.specs.declared.masks.Change.TheVariants.{Complement, Ones, Unchanged, Zeros}
use Rattle.logic.specs.declared.masks.SkipWhen.{SkipWhen}
use Rattle.logic.specs.declared.masks.SkipWhen.TheVariants.{AllMaskedEqualZero, Always, Never, NotAllMaskedEqualZero}

-- the accumulator after the change
unfoldable pub changed_by : Change → ℕ → ℕ → ℕ
changed_by Unchanged ac mask = word ac
changed_by Zeros ac mask = bit_and (word ac) (complement mask)
changed_by Complement ac mask = bit_xor (word ac) (word mask)
changed_by Ones ac mask = bit_or (word ac) (word mask)

-- what becomes of a masked bit
abbrev pub changed_bit : Change → ℕ → ℕ
changed_bit Unchanged b = b
changed_bit Zeros b = 0
changed_bit Complement b = 1 - b
changed_bit Ones b = 1

-- each masked bit is changed as said, and the others are kept
pub record Changes (change : Change) (ac mask r : ℕ) : Type 0 where
  pub masked : (k : ℕ) → k < 36 → bit mask k ≡ 1 → bit r k ≡ changed_bit change (bit ac k)
  pub others : (k : ℕ) → k < 36 → bit mask k ≡ 0 → bit r k ≡ bit ac k

-- whether the next instruction is skipped
unfoldable pub skips_when : SkipWhen → ℕ → ℕ → Bool
skips_when Never ac mask = false
skips_when AllMaskedEqualZero ac mask = bit_and (word ac) (word mask) == 0
skips_when Always ac mask = true
skips_when NotAllMaskedEqualZero ac mask = not (bit_and (word ac) (word mask) == 0)

-- every masked bit of the accumulator is 0
abbrev pub MaskedZero : ℕ → ℕ → Type 0
MaskedZero ac mask = (k : ℕ) → k < 36 → bit mask k ≡ 1 → bit ac k ≡ 0

-- when the next instruction is to be skipped
abbrev pub Skips : SkipWhen → ℕ → ℕ → Type 0
Skips Never ac mask = ⊥
Skips AllMaskedEqualZero ac mask = MaskedZero ac mask
Skips Always ac mask = Unit {0}
Skips NotAllMaskedEqualZero ac mask = MaskedZero ac mask → ⊥

-- the change and the test that an instruction's code names
unfoldable pub change_of : ℕ → Change
change_of code = pick (code / 16 % 4) Unchanged Zeros Complement Ones

unfoldable pub skip_when_of : ℕ → SkipWhen
skip_when_of code = pick (code / 2 % 4) Never AllMaskedEqualZero Always NotAllMaskedEqualZero
