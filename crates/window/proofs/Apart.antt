-- Windows that lie apart: where all before and after one is as it was, so is the other.
use Rattle.std.proofs.Common.{◌≡◌, ℕ, ◌+◌, ◌-◌, ◌≤◌, List, take, drop, sym, ap, ◌∙◌, ⊎_elim, arith}
use Rattle.std.proofs.lemmas.List.{take-take, drop-drop, drop-take}
use Rattle.window.specs.Windows.{window_of, words_before, words_after, Apart}

module _ (f n g m : ℕ) where
  in-before : g + m ≤ f → (ws : List ℕ) → window_of g m ws ≡ window_of g m (words_before f ws)
  unfolding window_of words_before
  in-before l ws =
      let e : f ≡ g + (f - g) = omega arith in
      sym (ap (λ k. take m (drop g (take k ws))) e ∙ ap (take m) (drop-take g (f - g) ws) ∙ take-take m (f - g) (drop g ws) (omega arith))

  in_after : f + n ≤ g → (ws : List ℕ) → window_of g m ws ≡ window_of (g - (f + n)) m (words_after f n ws)
  unfolding window_of words_after
  in_after l ws =
      let e : f + n + (g - (f + n)) ≡ g = omega arith in
      sym (ap (take m) (drop-drop (g - (f + n)) (f + n) ws ∙ ap (λ k. drop k ws) e))

pub unseen : (f n : ℕ) (ws vs : List ℕ) → words_before f vs ≡ words_before f ws → words_after f n vs ≡ words_after f n ws → (g m : ℕ) → Apart f n g m → window_of g m vs ≡ window_of g m ws
unseen f n ws vs low high g m apart =
    ⊎_elim
    (λ (l : f + n ≤ g). in_after f n g m l vs ∙ ap (window_of (g - (f + n)) m) high ∙ sym (in_after f n g m l ws))
    (λ (l : g + m ≤ f). in-before f n g m l vs ∙ ap (window_of g m) low ∙ sym (in-before f n g m l ws))
    apart
