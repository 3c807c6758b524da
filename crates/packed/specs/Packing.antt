-- What the packing calls do with the lists that are lent to them.
use Rattle.std.specs.Prelude.{◌≡◌, ℕ, ◌*◌, ◌/◌, ◌%◌, true, false, List, length, Ok, Err, Result, ◌≢◌}
use Rattle.packed.specs.Layout.{pack, unpack}
use Rattle.packed.specs.declared.packing.PackingError.{PackingError}
use Rattle.packed.specs.declared.packing.PackingError.TheVariants.{NotWholePairs, NotWholeNines, WrongLength, NotAWord}
use Rattle.words.specs.Word.{are_words}

-- why words are not packed into n bytes: the first of these
abbrev pub PackRefused : List ℕ → ℕ → PackingError → Type 0
PackRefused ws n NotWholePairs = length ws % 2 ≡ 0 → ⊥
PackRefused ws n WrongLength = (length ws % 2 ≡ 0) × (n ≢ length ws / 2 * 9)
PackRefused ws n NotAWord = (length ws % 2 ≡ 0) × (n ≡ length ws / 2 * 9) × (are_words ws ≡ false)
PackRefused ws n NotWholeNines = ⊥

-- packing words into a buffer that holds before and then after
abbrev pub Packs : List ℕ → List ℕ → List ℕ → Result (Unit {0}) PackingError → Type 0
Packs ws before after (Ok u) = (length ws % 2 ≡ 0) × (length before ≡ length ws / 2 * 9) × (are_words ws ≡ true) × (after ≡ pack ws)
Packs ws before after (Err e) = PackRefused ws (length before) e × (after ≡ before)

-- why bytes are not unpacked into n words: the first of these
abbrev pub UnpackRefused : List ℕ → ℕ → PackingError → Type 0
UnpackRefused bs n NotWholeNines = length bs % 9 ≡ 0 → ⊥
UnpackRefused bs n WrongLength = (length bs % 9 ≡ 0) × (n ≢ length bs / 9 * 2)
UnpackRefused bs n NotWholePairs = ⊥
UnpackRefused bs n NotAWord = ⊥

-- unpacking bytes into a buffer that holds before and then after
abbrev pub Unpacks : List ℕ → List ℕ → List ℕ → Result (Unit {0}) PackingError → Type 0
Unpacks bs before after (Ok u) = (length bs % 9 ≡ 0) × (length before ≡ length bs / 9 * 2) × (after ≡ unpack bs)
Unpacks bs before after (Err e) = UnpackRefused bs (length before) e × (after ≡ before)
