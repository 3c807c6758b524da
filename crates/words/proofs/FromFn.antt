-- Arrays that `array::from_fn` makes.
use Rattle.std.proofs.Common.{◌≡◌, ℕ, zero, suc, ◌+◌, ◌<◌, ◌≤◌, List, get_or, sym, subst, ⊎_elim, arith}
use Rattle.std.proofs.lemmas.Bool.{cases_lt}
use Rattle.std.specs.Array.{IsFromFnResult, IsFromFnResultFrom}
use Rattle.std.specs.Fn.{Called, Mut}

-- Each call of the closure f leaves it as it was, and has P of its index and its result: so has each element.
module _ {F B : Type 0} (g : Mut F (ℕ × Unit {0}) B) (P : ℕ → B → Type 0) (f : F) (len : ℕ) (calls : (i : ℕ) (y : B) (q : F) → i < len → Called g f (i, tt) y q → P i y × (q ≡ f)) (ys : List B) where
  made_from : (n i k : ℕ) (d : B) → i + n ≡ len → IsFromFnResultFrom g f ys i n → i ≤ k → k < len → P k (get_or ys k d)
  made_from zero i k d e h l m = absurd (omega arith)
  made_from (suc n) i k d e (q, y, at, call, more) l m =
      let told : P i y × (q ≡ f) = calls i y q (omega arith) call in
      ⊎_elim
      (λ (here : k < i + 1). let e : i ≡ k = omega arith in subst (λ j. P j (get_or ys j d)) e (subst (P i) (sym (at.1 d)) told.0))
      (λ (later : i + 1 ≤ k). made_from n (i + 1) k d (omega arith) (subst (λ r. IsFromFnResultFrom g r ys (i + 1) n) told.1 more) later m)
      (cases_lt k (i + 1))

  pub made_at : IsFromFnResult g f ys len → (k : ℕ) (d : B) → k < len → P k (get_or ys k d)
  made_at h k d l = made_from len 0 k d (omega arith) h.each (omega arith) l
