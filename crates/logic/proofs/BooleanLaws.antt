-- The sixteen functions meet their truth tables.
use Rattle.std.proofs.Common.{◌≡◌, ℕ, ◌+◌, ◌-◌, ◌*◌, ◌%◌, ◌<◌, min, max, get_or, sym, refl, ◌∙◌, subst, arith, below_none, below_more}
use Rattle.logic.proofs.BitLaws.{Bitwise, both, differing, each-pair, either, first, none, other, other-first, other-second, second, words_below}
use Rattle.words.specs.Bits.{bit}
use Rattle.logic.specs.Boolean.{ByTable, boolean_of, sixteen}
use Rattle.std.proofs.lemmas.Nat.Bits.{bit_at-lt}

module _ (m a : ℕ) where
  -- the word r is the function of m and a whose truth table is t
  abbrev Row : ℕ → ℕ → Type 0
  Row t r = (k : ℕ) → k < 36 → bit r k ≡ bit t (3 - (2 * bit m k + bit a k))

  abbrev Nth : ℕ → Type 0
  Nth t = Row t (get_or (sixteen m a) t 0)

  row : (t : ℕ) (f : ℕ → ℕ → ℕ) → Bitwise m a (get_or (sixteen m a) t 0) f → f 0 0 ≡ bit t 3 → f 0 1 ≡ bit t 2 → f 1 0 ≡ bit t 1 → f 1 1 ≡ bit t 0 → Nth t
  row t f h p q u v =
      λ k l. h.bits k l ∙ each-pair (λ b c. f b c ≡ bit t (3 - (2 * b + c))) p q u v (bit m k) (bit a k) (bit_at-lt m k) (bit_at-lt a k)

  rows : (t : ℕ) → t < 16 → Nth t
  rows =
      below_more Nth 15 (below_more Nth 14 (below_more Nth 13 (below_more Nth 12
      (below_more Nth 11 (below_more Nth 10 (below_more Nth 9 (below_more Nth 8
      (below_more Nth 7 (below_more Nth 6 (below_more Nth 5 (below_more Nth 4
      (below_more Nth 3 (below_more Nth 2 (below_more Nth 1 (below_more Nth 0 (below_none Nth)
      (row 0 (λ _ _. 0) none refl refl refl refl))
      (row 1 (λ b c. min b c) (both first second) refl refl refl refl))
      (row 2 (λ b c. min b (1 - c)) (both first other-second) refl refl refl refl))
      (row 3 (λ b _. b) first refl refl refl refl))
      (row 4 (λ b c. min c (1 - b)) (both second other-first) refl refl refl refl))
      (row 5 (λ _ c. c) second refl refl refl refl))
      (row 6 (λ b c. (b + c) % 2) (differing first second) refl refl refl refl))
      (row 7 (λ b c. max b c) (either first second) refl refl refl refl))
      (row 8 (λ b c. min (1 - c) (1 - b)) (both other-second other-first) refl refl refl refl))
      (row 9 (λ b c. 1 - (b + c) % 2) (other (differing first second)) refl refl refl refl))
      (row 10 (λ _ c. 1 - c) other-second refl refl refl refl))
      (row 11 (λ b c. max b (1 - c)) (either first other-second) refl refl refl refl))
      (row 12 (λ b _. 1 - b) other-first refl refl refl refl))
      (row 13 (λ b c. max c (1 - b)) (either second other-first) refl refl refl refl))
      (row 14 (λ b c. max (1 - c) (1 - b)) (either other-second other-first) refl refl refl refl))
      (row 15 (λ _ _. 1) (other none) refl refl refl refl)

pub boolean_law : (table operand ac r : ℕ) → r ≡ boolean_of table operand ac → ByTable table operand ac r
unfolding boolean_of
boolean_law table operand ac r e = subst (ByTable table operand ac) (sym e) (rows operand ac (table % 16) (omega arith))

pub ruleset boolean_laws = (words_below, boolean_law)
