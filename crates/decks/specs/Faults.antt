-- What is said of a deck's fault.
use Rattle.std.specs.Prelude.{ℕ, List, ◌++◌, codes, decimal}
use Rattle.decks.specs.declared.fault.DeckError.{DeckError}
use Rattle.decks.specs.declared.fault.DeckFault.{DeckFault}
use Rattle.decks.specs.declared.fault.DeckFault.TheVariants.{NotOctal, TooManyDigits, TooManyWords, NoMemory}

abbrev pub fault_words : DeckFault → List ℕ
fault_words NotOctal = codes "not an octal digit"
fault_words TooManyDigits = codes "more than twelve digits"
fault_words TooManyWords = codes "more than 262144 words"
fault_words NoMemory = codes "no memory for the words"

-- as in: line 7: not an octal digit
abbrev pub error_words : DeckError → List ℕ
error_words e = codes "line " ++ (decimal e.line ++ (codes ": " ++ fault_words e.fault))
