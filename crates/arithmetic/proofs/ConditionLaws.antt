-- A condition on the biased words is the same condition on the signed values, and the three bits of a code say which.
use Rattle.std.proofs.Common.{◌≡◌, ℕ, zero, suc, ◌+◌, ◌/◌, ◌%◌, ◌^◌, ◌<◌, ◌≤◌, Bool, true, false, ◌&&◌, ◌||◌, eqb, ltb, leb, ℤ, ◌≤ℤ◌, ◌<ℤ◌, Decides, sym, refl, ap, ◌∙◌, subst, to_z, of_z, w64, arith}
use Rattle.std.specs.Int.Signed.{lt_z, le_z}
use Rattle.arithmetic.proofs.SignedLaws.{signed_reads}
use Rattle.arithmetic.specs.Condition.{biased_of, holds_of, ComparisonLaw, condition_at, condition_of, CodeLaw}
use Rattle.words.specs.Signed.{signed}
use Rattle.arithmetic.specs.declared.condition.Condition.{Condition}
use Rattle.arithmetic.specs.declared.condition.Condition.TheVariants.{Never, Less, Equal, LessOrEqual, Always, GreaterOrEqual, NotEqual, Greater}
use Rattle.std.proofs.lemmas.Nat.{field_of}
use Rattle.std.proofs.lemmas.Bool.{false≢true, lt-ltb, le-ltb, le-leb, lt-leb, eq-eqb, ne_eqb, eqb-true, eqb-false}
use Rattle.std.proofs.lemmas.Bool.Decides.{nat_tests, Decides-ltb, Decides-eqb, Decides-like, Decides-not}
use borrow.Author.Differences.{up, down, ints}
use mathlib.Core.Bool.{xor}

bias : (w : ℕ) → biased_of w + down (signed w) ≡ up (signed w) + 2 ^ 35
bias w = omega (arith, signed_reads w)

decides-leb : (a b : ℕ) → Decides (leb a b) (a ≤ b)
decides-leb a b = grind (arith, nat_tests)

less : (x y : ℕ) → Decides (ltb (biased_of x) (biased_of y)) (signed x <ℤ signed y)
less x y =
    Decides-like (ltb (biased_of x) (biased_of y)) (λ h. omega (arith, ints, bias x, bias y)) (λ h. omega (arith, ints, bias x, bias y)) (Decides-ltb (biased_of x) (biased_of y))

equal : (x y : ℕ) → Decides (eqb (biased_of x) (biased_of y)) (signed x ≡ signed y)
equal x y =
    Decides-like (eqb (biased_of x) (biased_of y)) (λ h. omega (arith, ints, bias x, bias y)) (λ h. omega (arith, ints, bias x, bias y)) (Decides-eqb (biased_of x) (biased_of y))

at_most : (x y : ℕ) → Decides (leb (biased_of x) (biased_of y)) (signed x ≤ℤ signed y)
at_most x y =
    Decides-like (leb (biased_of x) (biased_of y)) (λ h. omega (arith, ints, bias x, bias y)) (λ h. omega (arith, ints, bias x, bias y)) (decides-leb (biased_of x) (biased_of y))

holds_of-law : (condition : Condition) (x y : ℕ) → ComparisonLaw condition x y (holds_of condition x y)
unfolding holds_of
holds_of-law Never x y = (λ e. false≢true e, λ b. absurd b)
holds_of-law Less x y = less x y
holds_of-law Equal x y = equal x y
holds_of-law LessOrEqual x y = at_most x y
holds_of-law Always x y = (λ _. tt, λ _. refl)
holds_of-law GreaterOrEqual x y = at_most y x
holds_of-law NotEqual x y = Decides-not (eqb (biased_of x) (biased_of y)) (equal x y)
holds_of-law Greater x y = less y x

-- what the answer `holds_of` tells of the signed values
pub comparison_law : (condition : Condition) (x y : ℕ) (answer : Bool) → answer ≡ holds_of condition x y → ComparisonLaw condition x y answer
comparison_law condition x y answer e = subst (ComparisonLaw condition x y) (sym e) (holds_of-law condition x y)

-- the tests of two signed numbers, as a program makes them, are those of the biased words
module _ (x y : ℕ) (a b : ℤ) (p : a ≡ signed x) (q : b ≡ signed y) where
  by_less : (t : Bool) → lt_z (to_z w64 (of_z w64 a)) (to_z w64 (of_z w64 b)) ≡ t → t ≡ ltb (biased_of x) (biased_of y)
  by_less true e = sym (lt-ltb (biased_of x) (biased_of y) (omega (arith, ints, p, q, e, bias x, bias y)))
  by_less false e = sym (le-ltb (biased_of x) (biased_of y) (omega (arith, ints, p, q, e, bias x, bias y)))

  by_at_most : (t : Bool) → le_z (to_z w64 (of_z w64 a)) (to_z w64 (of_z w64 b)) ≡ t → t ≡ leb (biased_of x) (biased_of y)
  by_at_most true e = sym (le-leb (biased_of x) (biased_of y) (omega (arith, ints, p, q, e, bias x, bias y)))
  by_at_most false e = sym (lt-leb (biased_of x) (biased_of y) (omega (arith, ints, p, q, e, bias x, bias y)))

  by_equal : (t : Bool) → eqb (of_z w64 a) (of_z w64 b) ≡ t → t ≡ eqb (biased_of x) (biased_of y)
  by_equal true e = sym (eq-eqb (biased_of x) (biased_of y) (omega (arith, ints, p, q, eqb-true (of_z w64 a) (of_z w64 b) e, bias x, bias y)))
  by_equal false e = sym (ne_eqb (biased_of x) (biased_of y) (λ f. eqb-false (of_z w64 a) (of_z w64 b) e (omega (arith, ints, p, q, bias x, bias y))))

  pub less_tests : lt_z (to_z w64 (of_z w64 a)) (to_z w64 (of_z w64 b)) ≡ ltb (biased_of x) (biased_of y)
  less_tests = by_less (lt_z (to_z w64 (of_z w64 a)) (to_z w64 (of_z w64 b))) refl

  pub at_most_tests : le_z (to_z w64 (of_z w64 a)) (to_z w64 (of_z w64 b)) ≡ leb (biased_of x) (biased_of y)
  at_most_tests = by_at_most (le_z (to_z w64 (of_z w64 a)) (to_z w64 (of_z w64 b))) refl

  pub equal_tests : eqb (of_z w64 a) (of_z w64 b) ≡ eqb (biased_of x) (biased_of y)
  equal_tests = by_equal (eqb (of_z w64 a) (of_z w64 b)) refl

pub ruleset condition_laws = (comparison_law, less_tests, at_most_tests, equal_tests)

code_at : (code : ℕ) → code < 8 → (x y : ℕ) → holds_of (condition_at code) x y ≡ xor (eqb (code / 4) 1) ((eqb (code % 2) 1 && holds_of Less x y) || (eqb (code / 2 % 2) 1 && holds_of Equal x y))
unfolding holds_of xor
code_at zero h x y = refl
code_at (suc zero) h x y = grind (arith, nat_tests)
code_at (suc (suc zero)) h x y = grind (arith, nat_tests)
code_at (suc (suc (suc zero))) h x y = grind (arith, nat_tests)
code_at (suc (suc (suc (suc zero)))) h x y = refl
code_at (suc (suc (suc (suc (suc zero))))) h x y = grind (arith, nat_tests)
code_at (suc (suc (suc (suc (suc (suc zero)))))) h x y = grind (arith, nat_tests)
code_at (suc (suc (suc (suc (suc (suc (suc zero))))))) h x y = grind (arith, nat_tests)
code_at (suc (suc (suc (suc (suc (suc (suc (suc code)))))))) h x y = absurd (omega arith)

even-of : (n : ℕ) → n % 4 % 2 ≡ n % 2
even-of n = omega arith

condition_of-law : (code : ℕ) → CodeLaw code (condition_of code)
unfolding condition_of
condition_of-law code x y =
    let third : code % 8 / 4 ≡ code / 4 % 2 = omega arith in
    let first : code % 8 % 2 ≡ code % 2 = omega arith in
    let upper : code % 8 / 2 ≡ code / 2 % 4 = field_of code 2 1 in
    let second : code % 8 / 2 % 2 ≡ code / 2 % 2 = ap (λ n. n % 2) upper ∙ even-of (code / 2) in
    rw (← third, ← first, ← second) (code_at (code % 8) (omega arith) x y)

-- what the three bits of a code tell of its condition
pub code_law : (code : ℕ) (condition : Condition) → condition ≡ condition_of code → CodeLaw code condition
code_law code condition e = subst (CodeLaw code) (sym e) (condition_of-law code)
