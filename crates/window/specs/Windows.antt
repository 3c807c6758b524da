-- A window on a list of words: what it sees, and what lies before and after it.
use Rattle.std.specs.Prelude.{◌≡◌, ℕ, ◌+◌, ◌-◌, ◌<◌, ◌≤◌, min, ◌⊎◌, List, length, take, drop, slice_index, slice_set}
use Rattle.std.proofs.lemmas.List.{length-take, length-drop, get_or-take, get_or-drop, get_or_past, drop-set-add, take-set-le, drop-set-lt}
use Rattle.std.proofs.lemmas.Bool.{cases_lt}
use Rattle.words.specs.Word.{Narrow}
use Rattle.std.proofs.Math.Seq.{take-set-lt}
use Rattle.std.proofs.Common.{⊎_elim, ◌∙◌, arith}
use Rattle.std.proofs.Math.Path.{ap}

-- the words from f on, n of them as far as the list reaches
unfoldable pub window_of : ℕ → ℕ → List ℕ → List ℕ
window_of f n ws = take n (drop f ws)

unfoldable pub words_before : ℕ → List ℕ → List ℕ
words_before f ws = take f ws

unfoldable pub words_after : ℕ → ℕ → List ℕ → List ℕ
words_after f n ws = drop (f + n) ws

-- n addresses from f on and m from g on have none in common
abbrev pub Apart : ℕ → ℕ → ℕ → ℕ → Type 0
Apart f n g m = (f + n ≤ g) ⊎ (g + m ≤ f)

module _ (f n : ℕ) (ws : List ℕ) where
  pub length-window : length (window_of f n ws) ≡ min n (length ws - f)
  unfolding window_of
  length-window = simp (length-take, length-drop)

  pub get_d_window : (a : ℕ) → a < n → slice_index (window_of f n ws) a ≡ slice_index ws (f + a)
  unfolding window_of
  get_d_window a l = get_or-take n (drop f ws) a 0 l ∙ get_or-drop f ws a 0

  pub set-window : (a w : ℕ) → a < n → window_of f n (slice_set ws (f + a) w) ≡ slice_set (window_of f n ws) a w
  unfolding window_of
  set-window a w l = ap (take n) (drop-set-add f ws a w) ∙ take-set-lt n (drop f ws) a w l

  pub before-set : (a w : ℕ) → words_before f (slice_set ws (f + a) w) ≡ words_before f ws
  unfolding words_before
  before-set a w = take-set-le f ws (f + a) w (omega arith)

  pub after-set : (a w : ℕ) → a < n → words_after f n (slice_set ws (f + a) w) ≡ words_after f n ws
  unfolding words_after
  after-set a w l = drop-set-lt (f + n) ws (f + a) w (omega arith)

  pub short-window : length ws ≤ 262144 → length (window_of f n ws) ≤ 262144
  short-window h = omega (arith, length-window)

  pub narrow-window : Narrow ws → Narrow (window_of f n ws)
  narrow-window h a =
      ⊎_elim
      (λ (l : a < n). omega (arith, get_d_window a l, h (f + a)))
      (λ (l : n ≤ a). omega (arith, get_or_past (window_of f n ws) a 0 (omega (arith, length-window))))
      (cases_lt a n)
