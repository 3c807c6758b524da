-- An interleaved core: even addresses in one core and odd ones in another, as far as the shorter reaches, cut at 262,144.
use Rattle.std.specs.Prelude.{ℕ, zero, suc, min, List, [], ◌∷◌, length, drop}
use Rattle.memory.specs.Cut.{cut, narrow_cut}
use Rattle.words.specs.Word.{Narrow}
use Rattle.std.proofs.Common.{arith}

-- one word of each in turn
unfoldable pub weave : List ℕ → List ℕ → List ℕ
weave (x ∷ xs) (y ∷ ys) = x ∷ y ∷ weave xs ys
weave (x ∷ xs) [] = []
weave [] ys = []

abbrev pub interleaved_words : List ℕ → List ℕ → List ℕ
interleaved_words xs ys = cut (weave xs ys)

-- how many words of each are words of the whole
unfoldable pub reach : List ℕ → List ℕ → ℕ
reach xs ys = min 131072 (min (length xs) (length ys))

-- what of the two no call changes: how far they reach, and the words of each past that
abbrev pub interleaved_rest : List ℕ → List ℕ → ℕ × List ℕ × List ℕ
interleaved_rest xs ys = (reach xs ys, drop (reach xs ys) xs, drop (reach xs ys) ys)

narrow-weave : (xs ys : List ℕ) → Narrow xs → Narrow ys → Narrow (weave xs ys)
unfolding weave
narrow-weave (x ∷ xs) (y ∷ ys) p q zero = p 0
narrow-weave (x ∷ xs) (y ∷ ys) p q (suc zero) = q 0
narrow-weave (x ∷ xs) (y ∷ ys) p q (suc (suc a)) = narrow-weave xs ys (λ k. p (suc k)) (λ k. q (suc k)) a
narrow-weave (x ∷ xs) [] p q a = omega arith
narrow-weave [] ys p q a = omega arith

pub narrow-interleaved : (xs ys : List ℕ) → Narrow xs → Narrow ys → Narrow (interleaved_words xs ys)
narrow-interleaved xs ys p q = narrow_cut (weave xs ys) (narrow-weave xs ys p q)
