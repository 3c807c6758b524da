-- The laws of the user words at a read and at a write.
use Rattle.std.proofs.Common.{◌≡◌, ℕ, ◌+◌, ◌-◌, ◌*◌, ◌<◌, ◌≤◌, min, List, length, get_or, set, sym, arith}
use Rattle.std.proofs.lemmas.Bool.Decides.{nat_tests}
use Rattle.std.proofs.lemmas.Grind.{common_steps}
use lib.Seq.{take-set-lt}
use Rattle.std.proofs.lemmas.List.{length-append, length-take, length-drop, get_or_append_left, get_or-append_right, set-append_left, set-append_right, drop-set-add}
use Rattle.machine.specs.User.{user_of}

module _ (accs : List ℕ) (base blocks : ℕ) (ws : List ℕ) (sixteen : length accs ≡ 16) where
  pub user-length : length (user_of accs base blocks ws) ≡ 16 + min (1024 * blocks - 16) (length ws - (1024 * base + 16))
  unfolding user_of
  user-length = simp (length-append, length-take, length-drop, sixteen)

  pub user-low : (a : ℕ) → a < 16 → get_or (user_of accs base blocks ws) a 0 ≡ get_or accs a 0
  unfolding user_of
  user-low a h = get_or_append_left accs _ 0 a (omega arith)

  pub user-high : (a : ℕ) → 16 ≤ a → a < 1024 * blocks → get_or (user_of accs base blocks ws) a 0 ≡ get_or ws (1024 * base + a) 0
  unfolding user_of
  user-high a l h =
      let e : (1024 * base + 16) + (a - 16) ≡ 1024 * base + a = omega arith in
      grind (arith, common_steps, get_or-append_right)

  pub set-low : (a w : ℕ) → a < 16 → user_of (set accs a w) base blocks ws ≡ set (user_of accs base blocks ws) a w
  unfolding user_of
  set-low a w h = sym (set-append_left accs _ a w (omega arith))

  pub set-high : (a w : ℕ) → 16 ≤ a → a < 1024 * blocks → user_of accs base blocks (set ws (1024 * base + a) w) ≡ set (user_of accs base blocks ws) a w
  unfolding user_of
  set-high a w l h =
      let e : 1024 * base + a ≡ (1024 * base + 16) + (a - 16) = omega arith in
      let inside : a - 16 < 1024 * blocks - 16 = omega arith in
      rw (e, drop-set-add, take-set-lt, set-append_right accs _ 16 a w sixteen l)

-- for `grind`
pub ruleset user_laws = (common_steps, nat_tests, user-length, user-low, user-high, set-low, set-high)
