-- The search for an effective address, word by word.
use Rattle.std.proofs.Common.{◌≡◌, ℕ, zero, suc, ◌-◌, ◌<◌, true, false, ◌^◌, subst, List, Some, Ok, Err, Option, sym, ap, arith}
use Rattle.std.proofs.lemmas.Grind.{common_steps}
use Rattle.operations.specs.Fields.{direct}
use Rattle.machine.proofs.UserLaws.{user_laws}
use Rattle.machine.specs.Address.{located, effective}
use Rattle.machine.specs.Endings.{and_then}
use Rattle.machine.specs.User.{fetched}
use Rattle.machine.specs.declared.located.Located.{Located}
use Rattle.std.proofs.Props.{props}
use Rattle.stops.specs.declared.stop.Stop.TheVariants.{AddressWords}

-- what is located is its address and its flag word
pub same_located : (l m : Located) → l.address ≡ m.address → l.flag_word ≡ m.flag_word → l ≡ m
same_located l m e f =
    let one : IsProp (m.address < 2 ^ 18) = hlevel props in
    let P : ℕ → Option ℕ → Type 0 = λ a g. (h : a < 2 ^ 18) → (◌≡◌ {A = Located} (record { address = a; flag_word = g; narrow = h }) m) in
    let here : P m.address m.flag_word = λ h. ap (λ (k : m.address < 2 ^ 18). (let r : Located = record { address = m.address; flag_word = m.flag_word; narrow = k } in r)) (one h m.narrow) in
    subst (λ a. P a l.flag_word) (sym e) (subst (P m.address) (sym f) here) l.narrow

module _ (last : Option ℕ) (u : List ℕ) (w : ℕ) where
  pub effective-direct : (n : ℕ) → direct w ≡ true → effective n last u w ≡ Ok (located last u w)
  unfolding effective
  effective-direct zero h = rw h
  effective-direct (suc n) h = rw h

  pub effective-none : (n : ℕ) → n ≡ 0 → direct w ≡ false → effective n last u w ≡ Err AddressWords
  unfolding effective
  effective-none n z h = rw (z, h)

  pub effective-more : (n : ℕ) → 0 < n → direct w ≡ false → effective n last u w ≡ and_then (fetched u (located last u w).address) (λ v. effective (n - 1) (Some v) u v)
  unfolding effective
  effective-more zero p h = absurd (omega arith)
  effective-more (suc n) p h = let e : suc n - 1 ≡ n = omega arith in rw (e, h)

-- for `grind`
pub ruleset locate_laws = (user_laws, same_located)

pub ruleset address_laws = (common_steps, effective-direct, effective-none, effective-more)
