-- What a deck's text says, character by character.
use Rattle.std.specs.Prelude.{◌≡◌, ℕ, ◌+◌, ◌*◌, cond, List, [], ◌∷◌, ◌++◌, length, Ok, Err, vec_items, Result, Vec, nat_lt}
use Rattle.decks.specs.Signs.{sign_of}
use Rattle.decks.specs.declared.fault.DeckError.{DeckError}
use Rattle.decks.specs.declared.fault.DeckFault.{DeckFault}
use Rattle.decks.specs.declared.fault.DeckFault.TheVariants.{NotOctal, TooManyDigits, TooManyWords, NoMemory}
use Rattle.decks.specs.declared.reader.Mode.{Mode}
use Rattle.decks.specs.declared.reader.Mode.TheVariants.{Between, Number, Comment}
use Rattle.decks.specs.declared.signs.Sign.{Sign}
use Rattle.decks.specs.declared.signs.Sign.TheVariants.{Digit, Blank, NewLine, Hash, Other}
use Rattle.std.specs.declared.alloc.Global.{Global}

-- how far the reading has come: the line of the next character, the words that are complete, and what it stands in
pub record Reading : Type 0 where
  pub line : ℕ
  pub words : List ℕ
  pub mode : Mode

abbrev pub begun : Reading
begun = record { line = 1; words = []; mode = Between }

abbrev pub in_mode : Mode → Reading → Reading
in_mode m s = record { line = s.line; words = s.words; mode = m }

abbrev pub with_word : ℕ → Reading → Reading
with_word w s = record { line = s.line; words = s.words ++ w ∷ []; mode = s.mode }

abbrev pub next_line : Reading → Reading
next_line s = record { line = s.line + 1; words = s.words; mode = Between }

-- one character more, by its sign. Between words; in a number of value v, with n digits so far; in a comment
abbrev pub step_in : Mode → Sign → Reading → Result Reading DeckFault
step_in Between (Digit d) s = cond (nat_lt (length s.words) 262144) (Ok (in_mode (Number d 1) s)) (Err TooManyWords)
step_in Between Blank s = Ok s
step_in Between NewLine s = Ok (next_line s)
step_in Between Hash s = Ok (in_mode Comment s)
step_in Between Other s = Err NotOctal
step_in (Number v n) (Digit d) s = cond (nat_lt n 12) (Ok (in_mode (Number (8 * v + d) (n + 1)) s)) (Err TooManyDigits)
step_in (Number v n) Blank s = Ok (in_mode Between (with_word v s))
step_in (Number v n) NewLine s = Ok (next_line (with_word v s))
step_in (Number v n) Hash s = Ok (in_mode Comment (with_word v s))
step_in (Number v n) Other s = Err NotOctal
step_in Comment (Digit d) s = Ok s
step_in Comment Blank s = Ok s
step_in Comment NewLine s = Ok (next_line s)
step_in Comment Hash s = Ok s
step_in Comment Other s = Ok s

abbrev pub step_on : ℕ → Reading → Result Reading DeckFault
step_on c s = step_in s.mode (sign_of c) s

-- at the end of the text a number that is being read is complete
abbrev pub words_in : Mode → List ℕ → List ℕ
words_in Between ws = ws
words_in (Number v n) ws = ws ++ v ∷ []
words_in Comment ws = ws

-- goes on after a step, and stops at a fault, which is on the character's line
abbrev pub onward : ℕ → Result Reading DeckFault → (Reading → Result (List ℕ) DeckError) → Result (List ℕ) DeckError
onward line (Ok s) rest = rest s
onward line (Err f) rest = Err (record { line = line; fault = f })

abbrev pub read_from : Reading → List ℕ → Result (List ℕ) DeckError
read_from s [] = Ok (words_in s.mode s.words)
read_from s (c ∷ cs) = onward s.line (step_on c s) (λ t. read_from t cs)

-- the words of a deck, or its first fault
abbrev pub deck_of : List ℕ → Result (List ℕ) DeckError
deck_of text = read_from begun text

-- P, but that memory may fail at any time
abbrev pub Unless-memory : DeckFault → Type 0 → Type 0
Unless-memory NotOctal P = P
Unless-memory TooManyDigits P = P
Unless-memory TooManyWords P = P
Unless-memory NoMemory P = Unit {0}

-- a text was read with this result, where the definition gives d
abbrev pub Answers : Result (List ℕ) DeckError → Result (Vec ℕ Global) DeckError → Type 0
Answers d (Ok v) = d ≡ Ok (vec_items v)
Answers d (Err e) = Unless-memory e.fault (d ≡ Err e)
