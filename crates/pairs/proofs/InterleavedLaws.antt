-- Reading and writing either part of an interleaved core.
use Rattle.std.proofs.Common.{◌≡◌, ℕ, zero, suc, ◌*◌, ◌/◌, ◌%◌, ◌<◌, min, List, [], ◌∷◌, length, get_or, set, Result, refl, ap, ◌∙◌, arith}
use Rattle.memory.specs.Access.{Reads, Writes}
use Rattle.memory.specs.Cut.{length_cut, cuts}
use Rattle.pairs.proofs.Whole.{reads-part, writes-part, keeps-part}
use Rattle.pairs.specs.Interleaving.{weave, reach, interleaved_words, interleaved_rest}
use Rattle.std.proofs.lemmas.List.{length-set, drop-set-lt}
use Rattle.std.proofs.Math.Numerals.{unary_clauses}
use Rattle.words.specs.declared.refusal.Refusal.{Refusal}

pub length-weave : (xs ys : List ℕ) → length (weave xs ys) ≡ 2 * min (length xs) (length ys)
unfolding weave
length-weave (x ∷ xs) (y ∷ ys) = omega (arith, length-weave xs ys)
length-weave (x ∷ xs) [] = omega arith
length-weave [] ys = omega arith

-- the k-th words of the two are the words 2k and 2k + 1 of the whole
weave-reads : (k : ℕ) (xs ys : List ℕ) → k < length xs → k < length ys → (get_or (weave xs ys) (2 * k) 0 ≡ get_or xs k 0) × (get_or (weave xs ys) (suc (2 * k)) 0 ≡ get_or ys k 0)
unfolding weave
weave-reads zero (x ∷ xs) (y ∷ ys) l m = (refl, refl)
weave-reads (suc k) (x ∷ xs) (y ∷ ys) l m = let again = weave-reads k xs ys (omega arith) (omega arith) in (simp unary_clauses again.0, simp unary_clauses again.1)
weave-reads k (x ∷ xs) [] l m = absurd (omega arith)
weave-reads k [] ys l m = absurd (omega arith)

weave-puts : (k : ℕ) (xs ys : List ℕ) (w : ℕ) → k < length xs → k < length ys → (weave (set xs k w) ys ≡ set (weave xs ys) (2 * k) w) × (weave xs (set ys k w) ≡ set (weave xs ys) (suc (2 * k)) w)
unfolding weave
weave-puts zero (x ∷ xs) (y ∷ ys) w l m = (refl, refl)
weave-puts (suc k) (x ∷ xs) (y ∷ ys) w l m =
    let again = weave-puts k xs ys w (omega arith) (omega arith) in
    (simp unary_clauses (ap (λ (t : List ℕ). x ∷ y ∷ t) again.0), simp unary_clauses (ap (λ (t : List ℕ). x ∷ y ∷ t) again.1))
weave-puts k (x ∷ xs) [] w l m = absurd (omega arith)
weave-puts k [] ys w l m = absurd (omega arith)

reach-left : (xs ys : List ℕ) (k w : ℕ) → reach (set xs k w) ys ≡ reach xs ys
unfolding reach
reach-left xs ys k w = ap (λ n. min 131072 (min n (length ys))) (length-set xs k w)

reach-right : (xs ys : List ℕ) (k w : ℕ) → reach xs (set ys k w) ≡ reach xs ys
unfolding reach
reach-right xs ys k w = ap (λ n. min 131072 (min (length xs) n)) (length-set ys k w)

within-reach : (xs ys : List ℕ) (a : ℕ) → a < length (interleaved_words xs ys) → a / 2 < reach xs ys
unfolding reach
within-reach xs ys a l = omega (arith, length_cut (weave xs ys), length-weave xs ys)

module _ (xs ys : List ℕ) (a : ℕ) (in' : a < length (interleaved_words xs ys)) where
  top : a < 262144
  top = omega (arith, length_cut (weave xs ys))

  half-x : a / 2 < length xs
  half-x = omega (arith, length_cut (weave xs ys), length-weave xs ys)

  half-y : a / 2 < length ys
  half-y = omega (arith, length_cut (weave xs ys), length-weave xs ys)

  whole : a < length (weave xs ys)
  whole = omega (arith, length_cut (weave xs ys))

  pub reads-even : a % 2 ≡ 0 → (r : Result ℕ Refusal) → Reads xs (a / 2) r → Reads (interleaved_words xs ys) a r
  reads-even z = reads-part (λ t. weave t ys) xs a (a / 2) top (λ _. whole) (λ m. absurd (omega (arith, half-x))) (λ _. let e : a ≡ 2 * (a / 2) = omega arith in ap (λ n. get_or (weave xs ys) n 0) e ∙ (weave-reads (a / 2) xs ys half-x half-y).0)

  pub reads-odd : (a % 2 ≡ 0 → ⊥) → (r : Result ℕ Refusal) → Reads ys (a / 2) r → Reads (interleaved_words xs ys) a r
  reads-odd z = reads-part (λ t. weave xs t) ys a (a / 2) top (λ _. whole) (λ m. absurd (omega (arith, half-y))) (λ _. let e : a ≡ suc (2 * (a / 2)) = omega arith in ap (λ n. get_or (weave xs ys) n 0) e ∙ (weave-reads (a / 2) xs ys half-x half-y).1)

  module _ (w : ℕ) (after : List ℕ) (r : Result (Unit {0}) Refusal) where
    pub writes-even : a % 2 ≡ 0 → Writes xs (a / 2) w after r → Writes (interleaved_words xs ys) a w (interleaved_words after ys) r
    writes-even z = writes-part (λ t. weave t ys) xs a (a / 2) top (λ _. whole) (λ m. absurd (omega (arith, half-x))) w (λ _. let e : 2 * (a / 2) ≡ a = omega arith in (weave-puts (a / 2) xs ys w half-x half-y).0 ∙ ap (λ n. set (weave xs ys) n w) e) after r

    pub writes-odd : (a % 2 ≡ 0 → ⊥) → Writes ys (a / 2) w after r → Writes (interleaved_words xs ys) a w (interleaved_words xs after) r
    writes-odd z = writes-part (λ t. weave xs t) ys a (a / 2) top (λ _. whole) (λ m. absurd (omega (arith, half-y))) w (λ _. let e : suc (2 * (a / 2)) ≡ a = omega arith in (weave-puts (a / 2) xs ys w half-x half-y).1 ∙ ap (λ n. set (weave xs ys) n w) e) after r

    pub keeps-even : Writes xs (a / 2) w after r → interleaved_rest after ys ≡ interleaved_rest xs ys
    keeps-even =
        keeps-part (λ t. interleaved_rest t ys) xs (a / 2) w
        (λ _.
        let n = reach-left xs ys (a / 2) w in
        let past = drop-set-lt (reach xs ys) xs (a / 2) w (within-reach xs ys a in') in
        cc)
        after r

    pub keeps-odd : Writes ys (a / 2) w after r → interleaved_rest xs after ≡ interleaved_rest xs ys
    keeps-odd =
        keeps-part (λ t. interleaved_rest xs t) ys (a / 2) w
        (λ _.
        let n = reach-right xs ys (a / 2) w in
        let past = drop-set-lt (reach xs ys) ys (a / 2) w (within-reach xs ys a in') in
        cc)
        after r

pub ruleset interleavings = (cuts, length-weave, reads-even, reads-odd, writes-even, writes-odd, keeps-even, keeps-odd)
