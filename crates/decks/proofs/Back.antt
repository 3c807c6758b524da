-- Words that were written out are read back.
use Rattle.std.proofs.Common.{◌≡◌, ℕ, zero, suc, ◌+◌, ◌/◌, ◌%◌, ◌^◌, ◌<◌, ◌≤◌, true, ltb, List, [], ◌∷◌, ◌++◌, length, Ok, Result, Vec, sym, ap, ◌∙◌, subst, pow-suc, arith}
use Rattle.decks.proofs.Digits.{octal-none, octal-more}
use Rattle.decks.specs.Deck.{Reading, step_on, onward, read_from, deck_of, Answers}
use Rattle.decks.specs.Laws.{ReadsBack}
use Rattle.decks.specs.Octal.{octal, written}
use Rattle.decks.specs.Signs.{sign_of}
use Rattle.words.specs.Word.{are_words}
use Rattle.decks.specs.declared.fault.DeckError.{DeckError}
use Rattle.decks.specs.declared.reader.Mode.{Mode}
use Rattle.decks.specs.declared.reader.Mode.TheVariants.{Between, Number}
use Rattle.decks.specs.declared.signs.Sign.TheVariants.{Digit}
use Rattle.std.proofs.lemmas.Nat.{div_below}
use Rattle.std.proofs.lemmas.List.{append_assoc, append-nil, length_push}
use Rattle.std.proofs.lemmas.Bool.{and_parts, ltb-true}
use Rattle.std.proofs.lemmas.Bool.Decides.{nat_tests}
use Rattle.std.specs.declared.alloc.Global.{Global}

digit-sign : (d : ℕ) → d < 8 → sign_of (48 + d) ≡ Digit d
digit-sign d l = grind (arith, nat_tests)

abbrev at : ℕ → List ℕ → Mode → Reading
at line ws m = record { line = line; words = ws; mode = m }

-- after k digits, of value v
abbrev after : ℕ → ℕ → Mode
after zero v = Between
after (suc k) v = Number v (suc k)

module _ (line : ℕ) (ws : List ℕ) (few : length ws < 262144) where
  -- one digit more
  digit-step : (k w : ℕ) → w < 8 ^ suc k → k < 12 → step_on (48 + w % 8) (at line ws (after k (w / 8))) ≡ Ok (at line ws (Number w (suc k)))
  digit-step zero w l m = grind (arith, nat_tests, digit-sign)
  digit-step (suc k) w l m = grind (arith, nat_tests, digit-sign)

  digits-read : (k w : ℕ) (rest : List ℕ) → w < 8 ^ k → k ≤ 12 → read_from (at line ws Between) (octal k w ++ rest) ≡ read_from (at line ws (after k w)) rest
  digits-read zero w rest l m = ap (λ t. read_from (at line ws Between) (t ++ rest)) (octal-none w)
  digits-read (suc k) w rest l m =
      let c = 48 + w % 8 in
      let less : w / 8 < 8 ^ k = div_below w 8 (8 ^ k) (omega arith) (omega (arith, pow-suc 8 k)) in
      ap (λ t. read_from (at line ws Between) (t ++ rest)) (octal-more k w)
      ∙ ap (read_from (at line ws Between)) (append_assoc (octal k (w / 8)) (c ∷ []) rest)
      ∙ digits-read k (w / 8) (c ∷ rest) less (omega arith)
      ∙ ap (λ r. onward line r (λ t. read_from t rest)) (digit-step k w l (omega arith))

  word_read : (w : ℕ) (rest : List ℕ) → w < 2 ^ 36 → read_from (at line ws Between) (octal 12 w ++ 10 ∷ rest) ≡ read_from (at (line + 1) (ws ++ w ∷ []) Between) rest
  word_read w rest l = digits-read 12 w (10 ∷ rest) l (omega arith)

written_read : (ws done : List ℕ) (line : ℕ) → are_words ws ≡ true → length done + length ws ≤ 262144 → read_from (at line done Between) (written ws) ≡ Ok (done ++ ws)
written_read [] done line e few = ap Ok (sym (append-nil done))
written_read (w ∷ ws) done line e few =
    let p = and_parts (ltb w (2 ^ 36)) (are_words ws) e in
    word_read line done (omega arith) w (written ws) (ltb-true w (2 ^ 36) p.0)
    ∙ written_read ws (done ++ w ∷ []) (line + 1) p.1 (omega (arith, length_push done w))
    ∙ ap Ok (append_assoc done (w ∷ []) ws)

pub reads-back : (text : List ℕ) (r : Result (Vec ℕ Global) DeckError) → Answers (deck_of text) r → ReadsBack text r
reads-back text r a ws e few is = subst (λ d. Answers d r) (ap deck_of is ∙ written_read ws [] 1 e (omega arith)) a
