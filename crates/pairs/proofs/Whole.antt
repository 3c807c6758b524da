-- A whole that is made of a part: what the part answers at b, the whole, cut, answers at a.
use Rattle.std.proofs.Common.{◌≡◌, ℕ, ◌<◌, ◌≤◌, List, length, get_or, set, Ok, Err, Result, sym, ap, ◌∙◌, arith}
use Rattle.memory.specs.Access.{Reads, Writes}
use Rattle.memory.specs.Cut.{cut, length_cut, get_or-cut, set-cut}
use Rattle.words.specs.declared.refusal.Refusal.{Refusal}

module _ (F : List ℕ → List ℕ) (part : List ℕ) (a b : ℕ) (top : a < 262144) (into : b < length part → a < length (F part)) (past : length part ≤ b → length (F part) ≤ a) where
  pub reads-part : (b < length part → get_or (F part) a 0 ≡ get_or part b 0) → (r : Result ℕ Refusal) → Reads part b r → Reads (cut (F part)) a r
  reads-part e (Ok w) (l, q) = let m = into l in (omega (arith, length_cut (F part)), q ∙ sym (get_or-cut (F part) a top ∙ e l))
  reads-part e (Err x) (l, q) = let m = past l in (omega (arith, length_cut (F part)), q)

  pub writes-part : (w : ℕ) → (b < length part → F (set part b w) ≡ set (F part) a w) → (after : List ℕ) (r : Result (Unit {0}) Refusal) → Writes part b w after r → Writes (cut (F part)) a w (cut (F after)) r
  writes-part w e after (Ok u) (k, l, q) = let m = into l in (k, omega (arith, length_cut (F part)), ap (λ (t : List ℕ). cut (F t)) q ∙ ap cut (e l) ∙ set-cut (F part) a w top)
  writes-part w e after (Err x) (q, z, l) = (ap (λ (t : List ℕ). cut (F t)) q, z, λ k. let m = past (l k).0 in (omega (arith, length_cut (F part)), (l k).1))

-- what a write to the part cannot change, it does not change, accepted or refused
pub keeps-part : {X : Type 0} (G : List ℕ → X) (part : List ℕ) (b w : ℕ) → (b < length part → G (set part b w) ≡ G part) → (after : List ℕ) (r : Result (Unit {0}) Refusal) → Writes part b w after r → G after ≡ G part
keeps-part G part b w e after (Ok u) (k, l, q) = ap G q ∙ e l
keeps-part G part b w e after (Err x) (q, z, l) = ap G q
