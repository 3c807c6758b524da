-- The window on the words of a span.
use Rattle.std.specs.Prelude.{◌≡◌, ℕ, List}
use Rattle.std.specs.Borrow.{GName}
use Rattle.window.specs.Windows.{window_of, words_before, words_after, Apart}
use Rattle.window.specs.declared.span.Span.{Span}

abbrev pub window_words : Span → List ℕ → List ℕ
window_words s ws = window_of s.from s.count ws

-- what else a window stands on: which core is lent to it, where it lies, the words before and after it, and what else
-- that core stands on
abbrev pub window_rest : {R : Type 0} → GName → Span → List ℕ → R → GName × ℕ × ℕ × List ℕ × List ℕ × R
window_rest core s ws r = (core, s.from, s.count, words_before s.from ws, words_after s.from s.count ws, r)

-- what came to pass in the window, when ws became vs, is seen in no window that lies apart from it
abbrev pub Unseen : Span → List ℕ → List ℕ → Type 0
Unseen s ws vs = (g m : ℕ) → Apart s.from s.count g m → window_of g m vs ≡ window_of g m ws
