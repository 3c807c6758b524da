-- A joined core: the high part begins where the low one ends, and all is cut at 262,144.
use Rattle.std.specs.Prelude.{ℕ, ◌-◌, ◌<◌, ◌≤◌, List, ◌++◌, length, refl}
use Rattle.memory.specs.Cut.{cut, over, narrow_cut}
use Rattle.std.proofs.lemmas.List.{get_or_append_left, get_or-append_right}
use Rattle.std.proofs.lemmas.Bool.{cases_lt}
use Rattle.words.specs.Word.{Narrow}
use Rattle.std.proofs.Common.{⊎_elim, arith}

abbrev pub joined_words : List ℕ → List ℕ → List ℕ
joined_words xs ys = cut (xs ++ ys)

-- what of the two no call changes: where the second begins, and the words past the cut
abbrev pub joined_rest : List ℕ → List ℕ → ℕ × List ℕ
joined_rest xs ys = (length xs, over (xs ++ ys))

narrow-append : (xs ys : List ℕ) → Narrow xs → Narrow ys → Narrow (xs ++ ys)
narrow-append xs ys p q a =
    ⊎_elim
    (λ (l : a < length xs). omega (arith, get_or_append_left xs ys 0 a l, p a))
    (λ (l : length xs ≤ a). omega (arith, get_or-append_right xs ys (length xs) a 0 refl l, q (a - length xs)))
    (cases_lt a (length xs))

pub narrow-joined : (xs ys : List ℕ) → Narrow xs → Narrow ys → Narrow (joined_words xs ys)
narrow-joined xs ys p q = narrow_cut (xs ++ ys) (narrow-append xs ys p q)
