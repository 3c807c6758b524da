-- Reading and writing either part of a joined core.
use Rattle.std.proofs.Common.{◌≡◌, ℕ, ◌-◌, ◌<◌, ◌≤◌, List, ◌++◌, length, Result, sym, refl, ap, ◌∙◌, arith}
use Rattle.memory.specs.Access.{Reads, Writes}
use Rattle.memory.specs.Cut.{over, over-set, cuts}
use Rattle.pairs.proofs.Whole.{reads-part, writes-part, keeps-part}
use Rattle.pairs.specs.Joining.{joined_words, joined_rest}
use Rattle.std.proofs.lemmas.List.{length-append, length-set, get_or_append_left, get_or-append_right, set-append_left, set-append_right}
use Rattle.words.specs.declared.refusal.Refusal.{Refusal}

module _ (xs ys : List ℕ) (a : ℕ) (top : a < 262144) where
  pub reads-low : a < length xs → (r : Result ℕ Refusal) → Reads xs a r → Reads (joined_words xs ys) a r
  reads-low l = reads-part (λ t. t ++ ys) xs a a top (λ _. omega (arith, length-append xs ys)) (λ m. absurd (omega arith)) (λ _. get_or_append_left xs ys 0 a l)

  pub reads-high : length xs ≤ a → (r : Result ℕ Refusal) → Reads ys (a - length xs) r → Reads (joined_words xs ys) a r
  reads-high l = reads-part (λ t. xs ++ t) ys a (a - length xs) top (λ m. omega (arith, length-append xs ys)) (λ m. omega (arith, length-append xs ys)) (λ m. get_or-append_right xs ys (length xs) a 0 refl l)

  module _ (w : ℕ) (after : List ℕ) (r : Result (Unit {0}) Refusal) where
    pub writes-low : a < length xs → Writes xs a w after r → Writes (joined_words xs ys) a w (joined_words after ys) r
    writes-low l = writes-part (λ t. t ++ ys) xs a a top (λ _. omega (arith, length-append xs ys)) (λ m. absurd (omega arith)) w (λ _. sym (set-append_left xs ys a w l)) after r

    pub writes-high : length xs ≤ a → Writes ys (a - length xs) w after r → Writes (joined_words xs ys) a w (joined_words xs after) r
    writes-high l = writes-part (λ t. xs ++ t) ys a (a - length xs) top (λ m. omega (arith, length-append xs ys)) (λ m. omega (arith, length-append xs ys)) w (λ _. sym (set-append_right xs ys (length xs) a w refl l)) after r

    pub keeps_low : a < length xs → Writes xs a w after r → joined_rest after ys ≡ joined_rest xs ys
    keeps_low l =
        keeps-part (λ t. joined_rest t ys) xs a w
        (λ _.
        let long = length-set xs a w in
        let past = ap over (sym (set-append_left xs ys a w l)) ∙ over-set (xs ++ ys) a w top in
        cc)
        after r

    pub keeps_high : length xs ≤ a → Writes ys (a - length xs) w after r → joined_rest xs after ≡ joined_rest xs ys
    keeps_high l =
        keeps-part (λ t. joined_rest xs t) ys (a - length xs) w
        (λ _. let past = ap over (sym (set-append_right xs ys (length xs) a w refl l)) ∙ over-set (xs ++ ys) a w top in cc)
        after r

pub ruleset joinings = (cuts, length-append, reads-low, reads-high, writes-low, writes-high, keeps_low, keeps_high)
