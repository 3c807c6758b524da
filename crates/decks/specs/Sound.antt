-- What the reader of a deck keeps true.
use Rattle.std.specs.Prelude.{ℕ, ◌^◌, ◌<◌, ◌≤◌}
use Rattle.std.specs.Coded.{le_prop}
use Rattle.std.proofs.Props.{props}
use Rattle.decks.specs.declared.reader.Mode.{Mode}
use Rattle.decks.specs.declared.reader.Mode.TheVariants.{Between, Number, Comment}

-- there are not too many complete words, and a number that is being read has at most twelve digits and fits them
abbrev pub SoundIn : Mode → ℕ → Type 0
SoundIn Between count = count ≤ 262144
SoundIn (Number v n) count = (count < 262144) × (v < 8 ^ n) × (n ≤ 12)
SoundIn Comment count = count ≤ 262144

pub SoundIn-prop : (m : Mode) (count : ℕ) → IsProp (SoundIn m count)
SoundIn-prop Between count = le_prop
SoundIn-prop (Number v n) count = hlevel props
SoundIn-prop Comment count = le_prop
