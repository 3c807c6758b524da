-- Two lists of words compared address by address.
use Rattle.std.proofs.Common.{◌≡◌, ℕ, ◌+◌, ◌≤◌, cond, List, [], ◌∷◌, length, take, drop, sym, refl, ap, ◌∙◌, arith}
use Rattle.std.proofs.lemmas.List.Sums.{sum_by-cons}
use Rattle.std.specs.List.{count_by, enumerate_from}
use Rattle.decks.specs.Storing.{Begins, holds_at, agreeing}
use Rattle.std.proofs.lemmas.List.{drop_more, drop_all}
use Rattle.std.proofs.lemmas.Bool.Decides.{nat_tests}

-- one word more, at address i
agreeing-more : (xs ws : List ℕ) (w i : ℕ) → agreeing (drop i xs) (w ∷ ws) ≡ cond (holds_at xs i w) 1 0 + agreeing (drop (i + 1) xs) ws
agreeing-more xs ws w i = grind (arith, nat_tests, drop_more, drop_all)

agreeing-none : (xs : List ℕ) → agreeing xs [] ≡ 0
agreeing-none [] = refl
agreeing-none (x ∷ xs) = refl

count_from : (xs ws : List ℕ) (i : ℕ) → count_by (λ (p : ℕ × ℕ). holds_at xs p.0 p.1) (enumerate_from i ws) ≡ agreeing (drop i xs) ws
count_from xs [] i = sym (agreeing-none (drop i xs))
count_from xs (w ∷ ws) i = sum_by-cons (λ (p : ℕ × ℕ). cond (holds_at xs p.0 p.1) 1 0) (i, w) (enumerate_from (i + 1) ws) ∙ ap (λ n. cond (holds_at xs i w) 1 0 + n) (count_from xs ws (i + 1)) ∙ sym (agreeing-more xs ws w i)

-- the words that stand at their addresses are those that agree
pub count_by-holds_at : (xs ws : List ℕ) → count_by (λ (p : ℕ × ℕ). holds_at xs p.0 p.1) (enumerate_from 0 ws) ≡ agreeing xs ws
count_by-holds_at xs ws = count_from xs ws 0

agreeing-le : (xs ws : List ℕ) → agreeing xs ws ≤ length ws
agreeing-le [] ws = omega arith
agreeing-le (x ∷ xs) [] = omega arith
agreeing-le (x ∷ xs) (w ∷ ws) = grind (arith, nat_tests, agreeing-le xs ws)

-- words that stand at the start are all found
pub agreeing-all : (xs ws : List ℕ) → Begins xs ws → agreeing xs ws ≡ length ws
agreeing-all [] [] e = refl
agreeing-all [] (w ∷ ws) e = let z : ◌≡◌ {A = ℕ} 0 1 = cc in absurd (omega arith)
agreeing-all (x ∷ xs) [] e = refl
agreeing-all (x ∷ xs) (w ∷ ws) e =
    let here : x ≡ w = cc in
    let there : take (length ws) xs ≡ ws = cc in
    let more = agreeing-all xs ws there in grind (arith, nat_tests)

-- and only those
pub agreeing-only : (xs ws : List ℕ) → agreeing xs ws ≡ length ws → Begins xs ws
agreeing-only [] [] e = refl
agreeing-only [] (w ∷ ws) e = absurd (omega arith)
agreeing-only (x ∷ xs) [] e = refl
agreeing-only (x ∷ xs) (w ∷ ws) e =
    let few = agreeing-le xs ws in
    let here : x ≡ w = grind (arith, nat_tests) in
    let more : agreeing xs ws ≡ length ws = grind (arith, nat_tests) in
    let there = agreeing-only xs ws more in cc
