-- Octal digits one by one.
use Rattle.std.proofs.Common.{◌≡◌, ℕ, zero, suc, ◌+◌, ◌-◌, ◌*◌, ◌/◌, ◌%◌, ◌^◌, ◌<◌, ◌≤◌, [], ◌∷◌, ◌++◌, length, get_or, sym, refl, ap, ◌∙◌, ⊎_elim, add-one, arith}
use Rattle.decks.specs.Octal.{octal}
use Rattle.std.proofs.Math.Nat.{div-div-eq-div-mul, div-one}
use Rattle.std.proofs.Math.Seq.{get_or-append_seam}
use Rattle.std.proofs.lemmas.Bool.{cases_lt}
use Rattle.std.proofs.lemmas.List.{get_or_append_left, length_push}
use Rattle.std.proofs.lemmas.Nat.{pow-add}

pub octal-none : (n : ℕ) → octal 0 n ≡ []
unfolding octal
octal-none n = refl

pub octal-more : (k n : ℕ) → octal (suc k) n ≡ octal k (n / 8) ++ (48 + n % 8) ∷ []
unfolding octal
octal-more k n = refl

pub length-octal : (k n : ℕ) → length (octal k n) ≡ k
unfolding octal
length-octal zero n = refl
length-octal (suc k) n = length_push (octal k (n / 8)) (48 + n % 8) ∙ ap (λ j. j + 1) (length-octal k (n / 8)) ∙ add-one k

-- digit j of k, which has s bits below it
pub get_or-octal : (k n j s : ℕ) → s + 3 * (j + 1) ≡ 3 * k → get_or (octal k n) j 0 ≡ 48 + n / 2 ^ s % 8
get_or-octal zero n j s e = absurd (omega arith)
get_or-octal (suc k) n j s e =
    let front = octal k (n / 8) in
    let long = length-octal k (n / 8) in
    ap (λ t. get_or t j 0) (octal-more k n)
    ∙ ⊎_elim
    (λ (last : s < 1).
    let here : j ≡ length front = omega (arith, long) in
    let none : 0 ≡ s = omega arith in
    ap (λ i. get_or (front ++ (48 + n % 8) ∷ []) i 0) here
    ∙ get_or-append_seam front (48 + n % 8) [] 0
    ∙ ap (λ m. 48 + m % 8) (sym (div-one n))
    ∙ ap (λ i. 48 + n / 2 ^ i % 8) none)
    (λ (more : 1 ≤ s).
    let t : (i : ℕ) × (s ≡ 3 + i) = (s - 3, omega arith) in
    get_or_append_left front ((48 + n % 8) ∷ []) 0 j (omega (arith, long))
    ∙ get_or-octal k (n / 8) j t.0 (omega (arith, t.1))
    ∙ ap (λ m. 48 + m % 8) (div-div-eq-div-mul n 8 (2 ^ t.0) ∙ ap (λ m. n / m) (sym (pow-add 2 3 t.0)) ∙ ap (λ i. n / 2 ^ i) (sym t.1)))
    (cases_lt s 1)
