-- Which way E moves a word, and that the opposite of E moves it as far the other way.
use Rattle.std.proofs.Common.{◌≡◌, ℕ, ◌-◌, ◌%◌, ◌^◌, ◌<◌, ◌≤◌, ltb, ap, ◌∙◌, ⊎_elim, arith}
use Rattle.shifts.specs.Distance.{distance_of, opposite}
use Rattle.shifts.specs.declared.distances.Distance.{Distance}
use Rattle.shifts.specs.declared.distances.Distance.TheVariants.{Left, Right}
use Rattle.std.proofs.lemmas.Bool.{cond-true, cond-false, lt-ltb, le-ltb, cases_lt, cases_eq}

goes_left : (e : ℕ) → e % 2 ^ 18 < 2 ^ 17 → distance_of e ≡ Left (e % 256)
unfolding distance_of
goes_left e h = cond-true (ltb (e % 2 ^ 18) (2 ^ 17)) (Left (e % 256)) (Right ((2 ^ 18 - e % 2 ^ 18) % 256)) (lt-ltb (e % 2 ^ 18) (2 ^ 17) h)

goes-right : (e : ℕ) → 2 ^ 17 ≤ e % 2 ^ 18 → distance_of e ≡ Right ((2 ^ 18 - e % 2 ^ 18) % 256)
unfolding distance_of
goes-right e h = cond-false (ltb (e % 2 ^ 18) (2 ^ 17)) (Left (e % 256)) (Right ((2 ^ 18 - e % 2 ^ 18) % 256)) (le-ltb (e % 2 ^ 18) (2 ^ 17) h)

-- E = 0 and E = -2^17 are their own opposites, and move nothing
pub data Opposed : Distance → Distance → Type 0 where
  left-right : (n : ℕ) → Opposed (Left n) (Right n)
  right-left : (n : ℕ) → Opposed (Right n) (Left n)
  left-still : Opposed (Left 0) (Left 0)
  right-still : Opposed (Right 0) (Right 0)

opposed-left : (e : ℕ) → e % 2 ^ 18 < 2 ^ 17 → Opposed (distance_of e) (distance_of (opposite e))
opposed-left e l =
    let p = goes_left e l in
    ⊎_elim
    (λ (z : e % 2 ^ 18 ≡ 0).
    let h : opposite e % 2 ^ 18 < 2 ^ 17 = omega arith in
    let p₀ : distance_of e ≡ Left 0 = p ∙ ap Left (omega arith) in
    let q₀ : distance_of (opposite e) ≡ Left 0 = goes_left (opposite e) h ∙ ap Left (omega arith) in
    rw (p₀, q₀) left-still)
    (λ (z : e % 2 ^ 18 ≡ 0 → ⊥).
    let h : 2 ^ 17 ≤ opposite e % 2 ^ 18 = omega arith in
    let q : distance_of (opposite e) ≡ Right (e % 256) = goes-right (opposite e) h ∙ ap Right (omega arith) in
    rw (p, q) (left-right (e % 256)))
    (cases_eq (e % 2 ^ 18) 0)

opposed-right : (e : ℕ) → 2 ^ 17 ≤ e % 2 ^ 18 → Opposed (distance_of e) (distance_of (opposite e))
opposed-right e g =
    let p = goes-right e g in
    ⊎_elim
    (λ (z : e % 2 ^ 18 ≡ 2 ^ 17).
    let h : 2 ^ 17 ≤ opposite e % 2 ^ 18 = omega arith in
    let p₀ : distance_of e ≡ Right 0 = p ∙ ap Right (omega arith) in
    let q₀ : distance_of (opposite e) ≡ Right 0 = goes-right (opposite e) h ∙ ap Right (omega arith) in
    rw (p₀, q₀) right-still)
    (λ (z : e % 2 ^ 18 ≡ 2 ^ 17 → ⊥).
    let h : opposite e % 2 ^ 18 < 2 ^ 17 = omega arith in
    let q : distance_of (opposite e) ≡ Left ((2 ^ 18 - e % 2 ^ 18) % 256) = goes_left (opposite e) h ∙ ap Left (omega arith) in
    rw (p, q) (right-left ((2 ^ 18 - e % 2 ^ 18) % 256)))
    (cases_eq (e % 2 ^ 18) (2 ^ 17))

pub opposed : (e : ℕ) → Opposed (distance_of e) (distance_of (opposite e))
opposed e = ⊎_elim (opposed-left e) (opposed-right e) (cases_lt (e % 2 ^ 18) (2 ^ 17))
