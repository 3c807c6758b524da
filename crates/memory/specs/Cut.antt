-- A core has no address from 262,144 on: what it stands on is cut there, and the rest is left over.
use Rattle.std.specs.Prelude.{◌≡◌, ℕ, ◌<◌, ◌≤◌, min, List, length, take, drop, slice_index, slice_set}
use Rattle.std.proofs.lemmas.List.{length-take, get_or-take, get_or_past, drop-set-lt}
use Rattle.std.proofs.lemmas.Bool.{cases_lt}
use Rattle.words.specs.Word.{Narrow}
use Rattle.std.proofs.Math.Seq.{take-set-lt}
use Rattle.std.proofs.Common.{⊎_elim, arith}

unfoldable pub cut : List ℕ → List ℕ
cut ws = take 262144 ws

unfoldable pub over : List ℕ → List ℕ
over ws = drop 262144 ws

pub length_cut : (ws : List ℕ) → length (cut ws) ≡ min 262144 (length ws)
unfolding cut
length_cut ws = length-take 262144 ws

pub get_or-cut : (ws : List ℕ) (i : ℕ) → i < 262144 → slice_index (cut ws) i ≡ slice_index ws i
unfolding cut
get_or-cut ws i h = get_or-take 262144 ws i 0 h

pub set-cut : (ws : List ℕ) (i w : ℕ) → i < 262144 → cut (slice_set ws i w) ≡ slice_set (cut ws) i w
unfolding cut
set-cut ws i w h = take-set-lt 262144 ws i w h

pub over-set : (ws : List ℕ) (i w : ℕ) → i < 262144 → over (slice_set ws i w) ≡ over ws
unfolding over
over-set ws i w h = drop-set-lt 262144 ws i w h

pub short_cut : (ws : List ℕ) → length (cut ws) ≤ 262144
short_cut ws = omega (arith, length_cut ws)

-- cutting makes no number that is no word
pub narrow_cut : (ws : List ℕ) → Narrow ws → Narrow (cut ws)
narrow_cut ws h a =
    ⊎_elim
    (λ (l : a < 262144). omega (arith, get_or-cut ws a l, h a))
    (λ (l : 262144 ≤ a). omega (arith, get_or_past (cut ws) a 0 (omega (arith, length_cut ws))))
    (cases_lt a 262144)

pub ruleset cuts = (length_cut, get_or-cut, set-cut, over-set)
