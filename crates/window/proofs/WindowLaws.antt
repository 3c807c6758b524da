-- What a core answers at an address in a window, the window answers.
use Rattle.std.proofs.Common.{◌≡◌, ℕ, ◌+◌, ◌-◌, ◌<◌, ◌≤◌, min, List, length, take, drop, Ok, Err, Result, sym, ap, ◌∙◌, ⊎_elim, arith}
use Rattle.memory.specs.Access.{Reads, Writes}
use Rattle.std.proofs.lemmas.List.{take_all, drop_all, length-drop}
use Rattle.std.proofs.lemmas.Bool.{cases_lt}
use Rattle.window.proofs.Apart.{unseen}
use Rattle.window.specs.Window.{window_rest, Unseen}
use Rattle.window.specs.declared.span.Span.{Span}
use Rattle.std.specs.Borrow.{GName}
use Rattle.window.specs.Windows.{window_of, words_before, words_after, length-window, get_d_window, set-window, before-set, after-set}
use Rattle.words.specs.declared.refusal.Refusal.{Refusal}

module _ (f n : ℕ) (ws : List ℕ) (a : ℕ) (l : a < n) where
  pub reads-window : (r : Result ℕ Refusal) → Reads ws (f + a) r → Reads (window_of f n ws) a r
  reads-window (Ok w) (h, e) = (omega (arith, length-window f n ws), e ∙ sym (get_d_window f n ws a l))
  reads-window (Err x) (h, e) = (omega (arith, length-window f n ws), e)

  module _ (w : ℕ) (vs : List ℕ) where
    pub writes-window : (r : Result (Unit {0}) Refusal) → Writes ws (f + a) w vs r → Writes (window_of f n ws) a w (window_of f n vs) r
    writes-window (Ok u) (k, h, e) = (k, omega (arith, length-window f n ws), ap (window_of f n) e ∙ set-window f n ws a w l)
    writes-window (Err x) (e, z, h) = (ap (window_of f n) e, z, λ k. let m = (h k).0 in (omega (arith, length-window f n ws), (h k).1))

    pub before-window : (r : Result (Unit {0}) Refusal) → Writes ws (f + a) w vs r → words_before f vs ≡ words_before f ws
    before-window (Ok u) (k, h, e) = ap (words_before f) e ∙ before-set f n ws a w
    before-window (Err x) (e, z, h) = ap (words_before f) e

    pub after-window : (r : Result (Unit {0}) Refusal) → Writes ws (f + a) w vs r → words_after f n vs ≡ words_after f n ws
    after-window (Ok u) (k, h, e) = ap (words_after f n) e ∙ after-set f n ws a w l
    after-window (Err x) (e, z, h) = ap (words_after f n) e

-- a write in a window changes nothing else that it stands on, and no window that lies apart sees it
module _ (s : Span) (ws vs : List ℕ) (a w : ℕ) (r : Result (Unit {0}) Refusal) (l : a < s.count) (did : Writes ws (s.from + a) w vs r) where
  pub keeps-window : {R : Type 0} → (core : GName) (x y : R) → y ≡ x → window_rest core s vs y ≡ window_rest core s ws x
  keeps-window core x y e =
      let low = before-window s.from s.count ws a l w vs r did in
      let high = after-window s.from s.count ws a l w vs r did in
      cc

  pub unseen-window : Unseen s ws vs
  unseen-window = unseen s.from s.count ws vs (before-window s.from s.count ws a l w vs r did) (after-window s.from s.count ws a l w vs r did)

-- a core has no address from 262,144 on, so a window that is cut there sees what the whole one would
pub window_cut : (f n : ℕ) (ws : List ℕ) → length ws ≤ 262144 → window_of (min f 262144) (min n (262144 - min f 262144)) ws ≡ window_of f n ws
unfolding window_of
window_cut f n ws h =
    ⊎_elim
    (λ (l : f < 262144).
    let e : min f 262144 ≡ f = omega arith in
    rw e
    (⊎_elim
    (λ (m : n < 262144 - f). let d : min n (262144 - f) ≡ n = omega arith in ap (λ k. take k (drop f ws)) d)
    (λ (m : 262144 - f ≤ n).
    let d : min n (262144 - f) ≡ 262144 - f = omega arith in
    ap (λ k. take k (drop f ws)) d ∙ take_all (262144 - f) (drop f ws) (omega (arith, length-drop f ws)) ∙ sym (take_all n (drop f ws) (omega (arith, length-drop f ws))))
    (cases_lt n (262144 - f))))
    (λ (l : 262144 ≤ f).
    let e : min f 262144 ≡ 262144 = omega arith in
    take_all (min n (262144 - min f 262144)) (drop (min f 262144) ws) (omega (arith, length-drop (min f 262144) ws)) ∙ drop_all (min f 262144) ws (omega arith) ∙ sym (drop_all f ws (omega arith)) ∙ sym (take_all n (drop f ws) (omega (arith, length-drop f ws))))
    (cases_lt f 262144)

pub ruleset windows = (length-window, reads-window, writes-window, keeps-window, unseen-window)
