-- What the sum of two words and its carries tell of the sum of the signed values.
use Rattle.std.proofs.Common.{◌≡◌, ℕ, ◌+◌, ◌-◌, ◌%◌, ◌^◌, ◌<◌, ◌≤◌, Bool, true, false, leb, ◌⊎◌, ℤ, pos, ◌+ℤ◌, ◌-ℤ◌, neg_ℤ, ◌≤ℤ◌, ◌<ℤ◌, MatchBool, refl, sym, subst, inl, inr, ⊎_elim, arith}
use Rattle.arithmetic.proofs.SignedLaws.{signed_reads}
use Rattle.arithmetic.specs.Signed.{Representable}
use Rattle.words.specs.Signed.{signed}
use Rattle.arithmetic.specs.Sums.{add_words, bit, StandsFor, SumLaw, DifferenceLaw, NegationLaw, NegationCarries, SuccessorLaw, PredecessorLaw}
use Rattle.words.specs.Bits.{complement as complement_of}
use Rattle.std.proofs.lemmas.Bool.{true≢false, false≢true, leb-true, le-leb}
use Rattle.std.proofs.lemmas.Bool.Decides.{nat_tests}
use borrow.Author.Differences.{ints}

abbrev true_sum : ℕ → ℕ → ℕ → ℤ
true_sum x y b = signed x +ℤ signed y +ℤ pos b

abbrev whole_sum : ℕ → ℕ → ℕ → ℕ
whole_sum x y b = x % 2 ^ 36 + y % 2 ^ 36 + b

abbrev low_sum : ℕ → ℕ → ℕ → ℕ
low_sum x y b = x % 2 ^ 35 + y % 2 ^ 35 + b

module _ (x y b : ℕ) (h : b < 2) where
  exact : Representable (true_sum x y b) → signed (whole_sum x y b % 2 ^ 36) ≡ true_sum x y b
  exact f = omega (arith, ints, signed_reads x, signed_reads y, signed_reads (whole_sum x y b % 2 ^ 36))

  below : true_sum x y b <ℤ neg_ℤ (pos (2 ^ 35)) → signed (whole_sum x y b % 2 ^ 36) ≡ true_sum x y b +ℤ pos (2 ^ 36)
  below f = omega (arith, ints, signed_reads x, signed_reads y, signed_reads (whole_sum x y b % 2 ^ 36))

  above : pos (2 ^ 35) ≤ℤ true_sum x y b → signed (whole_sum x y b % 2 ^ 36) ≡ true_sum x y b -ℤ pos (2 ^ 36)
  above f = omega (arith, ints, signed_reads x, signed_reads y, signed_reads (whole_sum x y b % 2 ^ 36))

  both : 2 ^ 36 ≤ whole_sum x y b → 2 ^ 35 ≤ low_sum x y b → Representable (true_sum x y b)
  both p q = (omega (arith, ints, signed_reads x, signed_reads y), omega (arith, ints, signed_reads x, signed_reads y))

  neither : whole_sum x y b < 2 ^ 36 → low_sum x y b < 2 ^ 35 → Representable (true_sum x y b)
  neither p q = (omega (arith, ints, signed_reads x, signed_reads y), omega (arith, ints, signed_reads x, signed_reads y))

  only-0 : 2 ^ 36 ≤ whole_sum x y b → low_sum x y b < 2 ^ 35 → Representable (true_sum x y b) → ⊥
  only-0 p q f = omega (arith, ints, signed_reads x, signed_reads y)

  only-1 : whole_sum x y b < 2 ^ 36 → 2 ^ 35 ≤ low_sum x y b → Representable (true_sum x y b) → ⊥
  only-1 p q f = omega (arith, ints, signed_reads x, signed_reads y)

  -- the carries p and q, each with what it says
  told : (p q : Bool) → MatchBool p (2 ^ 36 ≤ whole_sum x y b) (whole_sum x y b < 2 ^ 36) → MatchBool q (2 ^ 35 ≤ low_sum x y b) (low_sum x y b < 2 ^ 35) → StandsFor (true_sum x y b) (whole_sum x y b % 2 ^ 36, p, q)
  told true true m n = record { fits = λ _. both m n; agree = λ _. refl; exact = exact; below = below; above = above }
  told false false m n = record { fits = λ _. neither m n; agree = λ _. refl; exact = exact; below = below; above = above }
  told true false m n = record { fits = λ e. absurd (true≢false e); agree = λ f. absurd (only-0 m n f); exact = exact; below = below; above = above }
  told false true m n = record { fits = λ e. absurd (false≢true e); agree = λ f. absurd (only-1 m n f); exact = exact; below = below; above = above }

carried : (m n : ℕ) → MatchBool (leb m n) (m ≤ n) (n < m)
carried m n = grind (arith, nat_tests)

add_words-law : (x y : ℕ) (c : Bool) → SumLaw x y c (add_words x y c)
unfolding add_words
add_words-law x y true = told x y 1 (omega arith) (leb (2 ^ 36) (whole_sum x y 1)) (leb (2 ^ 35) (low_sum x y 1)) (carried (2 ^ 36) (whole_sum x y 1)) (carried (2 ^ 35) (low_sum x y 1))
add_words-law x y false = told x y 0 (omega arith) (leb (2 ^ 36) (whole_sum x y 0)) (leb (2 ^ 35) (low_sum x y 0)) (carried (2 ^ 36) (whole_sum x y 0)) (carried (2 ^ 35) (low_sum x y 0))

pub sum_law : (x y : ℕ) (c : Bool) (r : ℕ × Bool × Bool) → r ≡ add_words x y c → SumLaw x y c r
sum_law x y c r e = subst (SumLaw x y c) (sym e) (add_words-law x y c)

-- the sum that r is stands for z, where z is the sum of the signed values
stands : (z : ℤ) (x y : ℕ) (c : Bool) (r : ℕ × Bool × Bool) → r ≡ add_words x y c → signed x +ℤ signed y +ℤ pos (bit c) ≡ z → StandsFor z r
stands z x y c r e s = subst (λ (t : ℤ). StandsFor t r) s (sum_law x y c r e)

pub difference_law : (x y : ℕ) (r : ℕ × Bool × Bool) → r ≡ add_words x (complement_of y) true → DifferenceLaw x y r
difference_law x y r e = stands (signed x -ℤ signed y) x (complement_of y) true r e (omega (arith, ints, signed_reads y, signed_reads (complement_of y)))

pub negation_law : (x : ℕ) (r : ℕ × Bool × Bool) → r ≡ add_words (complement_of x) 1 false → NegationLaw x r
negation_law x r e = stands (neg_ℤ (signed x)) (complement_of x) 1 false r e (omega (arith, ints, signed_reads x, signed_reads 1, signed_reads (complement_of x)))

pub successor_law : (x : ℕ) (r : ℕ × Bool × Bool) → r ≡ add_words x 1 false → SuccessorLaw x r
successor_law x r e = stands (signed x +ℤ pos 1) x 1 false r e (omega (arith, ints, signed_reads 1))

pub predecessor_law : (x : ℕ) (r : ℕ × Bool × Bool) → r ≡ add_words x (2 ^ 36 - 1) false → PredecessorLaw x r
predecessor_law x r e = stands (signed x -ℤ pos 1) x (2 ^ 36 - 1) false r e (omega (arith, ints, signed_reads (2 ^ 36 - 1)))

abbrev low_of_negation : ℕ → ℕ
low_of_negation x = complement_of x % 2 ^ 35 + 1 + 0

zero-or-least : (x : ℕ) → 2 ^ 35 ≤ low_of_negation x → (signed x ≡ pos 0) ⊎ (signed x ≡ neg_ℤ (pos (2 ^ 35)))
zero-or-least x h =
    ⊎_elim (λ s. inl (omega (arith, ints, s))) (λ s. inr (omega (arith, ints, s))) (signed_reads x)

carry-1-of : (x : ℕ) → (signed x ≡ pos 0) ⊎ (signed x ≡ neg_ℤ (pos (2 ^ 35))) → 2 ^ 35 ≤ low_of_negation x
carry-1-of x h =
    ⊎_elim (λ (e : signed x ≡ pos 0). omega (arith, ints, signed_reads x)) (λ (e : signed x ≡ neg_ℤ (pos (2 ^ 35))). omega (arith, ints, signed_reads x)) h

add_words-carries : (x : ℕ) → NegationCarries x (add_words (complement_of x) 1 false)
unfolding add_words
add_words-carries x =
    let whole = whole_sum (complement_of x) 1 0 in (
      (λ e. omega (arith, ints, signed_reads x, leb-true (2 ^ 36) whole e), λ e. le-leb (2 ^ 36) whole (omega (arith, ints, signed_reads x))),
      (λ e. zero-or-least x (leb-true (2 ^ 35) (low_of_negation x) e), λ e. le-leb (2 ^ 35) (low_of_negation x) (carry-1-of x e)),
    )

pub negation_carries : (x : ℕ) (r : ℕ × Bool × Bool) → r ≡ add_words (complement_of x) 1 false → NegationCarries x r
negation_carries x r e = subst (NegationCarries x) (sym e) (add_words-carries x)
