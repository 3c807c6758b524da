-- Where a word lies among the bytes: what reading it gives, and what putting it there changes.
use Rattle.std.proofs.Common.{◌≡◌, sym, ℕ, zero, suc, ◌+◌, ◌*◌, ◌/◌, ◌%◌, ◌^◌, ◌<◌, ◌≤◌, [], take, w64, min, eqb, List, ◌∷◌, length, get_or, drop, set, refl, ap, ◌∙◌, ⊎_elim, arith}
use Rattle.memory.specs.Cut.{cut, cuts, length_cut}
use Rattle.std.specs.Simd.{first_chunks}
use borrow.Rule.Slice.PartMut.{put_mid}
use Rattle.std.specs.Int.{to_be_bytes}
use Rattle.packed.proofs.Parts.{nine}
use Rattle.std.proofs.Math.Nat.{suc-mul}
use Rattle.std.proofs.Math.Numerals.{unary_clauses}
use Rattle.packed.specs.Layout.{even, odd, even_at, odd_at, unpack, put_even, put_odd, put_word}
use Rattle.packed.specs.Nines.{by-nines}
use Rattle.packed.specs.Words.{left_over, length-unpack}
use Rattle.std.proofs.lemmas.List.{drop-set-lt, length-set}
use Rattle.std.proofs.lemmas.Bool.{cond-true, cond-false, eq-eqb, ne_eqb, cases_eq, cond_both}

-- what is to show of each pair, by its number k: the k-th nine of the first n holds its words
abbrev ReadsPair : List ℕ → Type 0
ReadsPair bs =
    (k n : ℕ) (d : List ℕ) → k < n → n * 9 ≤ length bs
    → (get_or (unpack bs) (2 * k) 0 ≡ even_at (get_or (first_chunks 9 n bs) k d) 0) × (get_or (unpack bs) (suc (2 * k)) 0 ≡ odd_at (get_or (first_chunks 9 n bs) k d) 0)

reads_more : (a b c d e f g h i : ℕ) (bs : List ℕ) → ReadsPair bs → ReadsPair (a ∷ b ∷ c ∷ d ∷ e ∷ f ∷ g ∷ h ∷ i ∷ bs)
unfolding unpack
reads_more a b c d e f g h i bs again k zero x l m = absurd (omega arith)
reads_more a b c d e f g h i bs again zero (suc n) x l m = (refl, refl)
reads_more a b c d e f g h i bs again (suc k) (suc n) x l m =
    let next = again k n x (omega arith) (omega arith) in
    (simp unary_clauses next.0, simp unary_clauses next.1)

reads-pair : (bs : List ℕ) → ReadsPair bs
reads-pair = by-nines ReadsPair (λ bs short k n x l m. absurd (omega arith)) reads_more

-- five bytes written in a row
five-put : (p : ℕ) (bs : List ℕ) (u v x y z : ℕ) → p + 4 < length bs → put_mid p 5 bs (u ∷ v ∷ x ∷ y ∷ z ∷ []) ≡ set (set (set (set (set bs p u) (p + 1) v) (p + 2) x) (p + 3) y) (p + 4) z
five-put zero (a ∷ b ∷ c ∷ d ∷ e ∷ bs) u v x y z l = refl
five-put (suc p) (b ∷ bs) u v x y z l =
    let one : suc p + 1 ≡ suc (p + 1) = omega arith in
    let two : suc p + 2 ≡ suc (p + 2) = omega arith in
    let three : suc p + 3 ≡ suc (p + 3) = omega arith in
    let four : suc p + 4 ≡ suc (p + 4) = omega arith in
    rw (one, two, three, four) (ap (λ (t : List ℕ). b ∷ t) (five-put p bs u v x y z (omega arith)))
five-put p bs u v x y z l = absurd (omega arith)

even-put : (w e : ℕ) → w < 2 ^ 36 → even (w / 2 ^ 28) (w / 2 ^ 20 % 2 ^ 8) (w / 2 ^ 12 % 2 ^ 8) (w / 2 ^ 4 % 2 ^ 8) (w % 2 ^ 4 * 2 ^ 4 + e % 2 ^ 4) ≡ w
unfolding even
even-put w e h = omega arith

odd-put : (w e : ℕ) → w < 2 ^ 36 → odd (e / 2 ^ 4 * 2 ^ 4 + w / 2 ^ 32) (w / 2 ^ 24 % 2 ^ 8) (w / 2 ^ 16 % 2 ^ 8) (w / 2 ^ 8 % 2 ^ 8) (w % 2 ^ 8) ≡ w
unfolding odd
odd-put w e h = omega arith

odd-kept : (w e f g h i : ℕ) → odd (w % 2 ^ 4 * 2 ^ 4 + e % 2 ^ 4) f g h i ≡ odd e f g h i
unfolding odd
odd-kept w e f g h i = omega arith

even-kept : (w a b c d e : ℕ) → w < 2 ^ 36 → even a b c d (e / 2 ^ 4 * 2 ^ 4 + w / 2 ^ 32) ≡ even a b c d e
unfolding even
even-kept w a b c d e l = omega arith

abbrev PutsPair : List ℕ → Type 0
PutsPair bs = (k w : ℕ) → w < 2 ^ 36 → k * 9 + 8 < length bs → (unpack (put_even bs (k * 9) w) ≡ set (unpack bs) (2 * k) w) × (unpack (put_odd bs (k * 9) w) ≡ set (unpack bs) (suc (2 * k)) w)

puts-more : (a b c d e f g h i : ℕ) (bs : List ℕ) → PutsPair bs → PutsPair (a ∷ b ∷ c ∷ d ∷ e ∷ f ∷ g ∷ h ∷ i ∷ bs)
unfolding unpack
puts-more a b c d e f g h i bs again zero w m l =
    let x = even-put w e m in
    let y = odd-kept w e f g h i in
    let z = odd-put w e m in
    let t = even-kept w a b c d e m in
    ((cc), (cc))
puts-more a b c d e f g h i bs again (suc k) w m l =
    let less : k * 9 + 8 < length bs = omega arith in (
      simp (suc-mul, nine, unary_clauses) (ap (λ (t : List ℕ). even a b c d e ∷ odd e f g h i ∷ t) (simp unary_clauses at (again k w m less).0)),
      simp (suc-mul, nine, unary_clauses) (ap (λ (t : List ℕ). even a b c d e ∷ odd e f g h i ∷ t) (simp unary_clauses at (again k w m less).1)),
    )

puts-pair : (bs : List ℕ) → PutsPair bs
puts-pair = by-nines PutsPair (λ bs short k w m l. absurd (omega arith)) puts-more

-- a word and the half beside it, as the last five bytes of a number of eight
five-even : (w s n : ℕ) → w < 2 ^ 36 → n ≡ w * 16 + s % 16 → drop 3 (to_be_bytes w64 n) ≡ (w / 2 ^ 28) ∷ (w / 2 ^ 20 % 2 ^ 8) ∷ (w / 2 ^ 12 % 2 ^ 8) ∷ (w / 2 ^ 4 % 2 ^ 8) ∷ (w % 2 ^ 4 * 2 ^ 4 + s % 2 ^ 4) ∷ []
five-even w s n m e =
    let a : n / 2 ^ 32 % 256 ≡ w / 2 ^ 28 = omega arith in
    let b : n / 2 ^ 24 % 256 ≡ w / 2 ^ 20 % 2 ^ 8 = omega arith in
    let c : n / 2 ^ 16 % 256 ≡ w / 2 ^ 12 % 2 ^ 8 = omega arith in
    let d : n / 2 ^ 8 % 256 ≡ w / 2 ^ 4 % 2 ^ 8 = omega arith in
    let f : n % 256 ≡ w % 2 ^ 4 * 2 ^ 4 + s % 2 ^ 4 = omega arith in
    cc

five-odd : (w s n : ℕ) → w < 2 ^ 36 → s < 2 ^ 8 → n ≡ s / 16 * 2 ^ 36 + w → drop 3 (to_be_bytes w64 n) ≡ (s / 2 ^ 4 * 2 ^ 4 + w / 2 ^ 32) ∷ (w / 2 ^ 24 % 2 ^ 8) ∷ (w / 2 ^ 16 % 2 ^ 8) ∷ (w / 2 ^ 8 % 2 ^ 8) ∷ (w % 2 ^ 8) ∷ []
five-odd w s n m l e =
    let a : n / 2 ^ 32 % 256 ≡ s / 2 ^ 4 * 2 ^ 4 + w / 2 ^ 32 = omega arith in
    let b : n / 2 ^ 24 % 256 ≡ w / 2 ^ 24 % 2 ^ 8 = omega arith in
    let c : n / 2 ^ 16 % 256 ≡ w / 2 ^ 16 % 2 ^ 8 = omega arith in
    let d : n / 2 ^ 8 % 256 ≡ w / 2 ^ 8 % 2 ^ 8 = omega arith in
    let f : n % 256 ≡ w % 2 ^ 8 = omega arith in
    cc

-- the same by the address
module _ (bs : List ℕ) (a : ℕ) (in' : a < 2 * (length bs / 9)) where
  pub get_or-even : (x : List ℕ) → a % 2 ≡ 0 → get_or (unpack bs) a 0 ≡ even_at (get_or (first_chunks 9 (length bs / 9) bs) (a / 2) x) 0
  get_or-even x z = let e : a ≡ 2 * (a / 2) = omega arith in ap (λ n. get_or (unpack bs) n 0) e ∙ (reads-pair bs (a / 2) (length bs / 9) x (omega arith) (omega arith)).0

  pub get_or-odd : (x : List ℕ) → (a % 2 ≡ 0 → ⊥) → get_or (unpack bs) a 0 ≡ odd_at (get_or (first_chunks 9 (length bs / 9) bs) (a / 2) x) 0
  get_or-odd x z = let e : a ≡ suc (2 * (a / 2)) = omega arith in ap (λ n. get_or (unpack bs) n 0) e ∙ (reads-pair bs (a / 2) (length bs / 9) x (omega arith) (omega arith)).1

  -- the five bytes of a word, written in a row as the last ones of eight
  module _ (w n k : ℕ) (eight five : List ℕ) (m : w < 2 ^ 36) (k-5 : k ≡ 5) (last : five ≡ take 5 (drop 3 eight)) (all : eight ≡ to_be_bytes w64 n) where
    put-five : (p : ℕ) (bytes : List ℕ) → drop 3 (to_be_bytes w64 n) ≡ bytes → put_mid p k bs five ≡ put_mid p 5 bs bytes
    put-five p bytes e = ap (λ j. put_mid p j bs five) k-5 ∙ ap (put_mid p 5 bs) (last ∙ ap (λ (t : List ℕ). take 5 (drop 3 t)) all ∙ e)

    pub put-even : a % 2 ≡ 0 → n ≡ w * 16 + get_or bs (a / 2 * 9 + 4) 0 % 16 → put_mid (a / 2 * 9) k bs five ≡ put_word bs a w
    unfolding put_word
    put-even z e =
        put-five (a / 2 * 9) _ (five-even w (get_or bs (a / 2 * 9 + 4) 0) n m e)
        ∙ five-put (a / 2 * 9) bs _ _ _ _ _ (omega arith)
        ∙ sym (cond-true (eqb (a % 2) 0) _ _ (eq-eqb (a % 2) 0 z))

    pub put-odd : (a % 2 ≡ 0 → ⊥) → get_or bs (a / 2 * 9 + 4) 0 < 2 ^ 8 → n ≡ get_or bs (a / 2 * 9 + 4) 0 / 16 * 2 ^ 36 + w → put_mid (a / 2 * 9 + 4) k bs five ≡ put_word bs a w
    unfolding put_word
    put-odd z l e =
        let one : a / 2 * 9 + 4 + 1 ≡ a / 2 * 9 + 5 = omega arith in
        let two : a / 2 * 9 + 4 + 2 ≡ a / 2 * 9 + 6 = omega arith in
        let three : a / 2 * 9 + 4 + 3 ≡ a / 2 * 9 + 7 = omega arith in
        let four : a / 2 * 9 + 4 + 4 ≡ a / 2 * 9 + 8 = omega arith in
        put-five (a / 2 * 9 + 4) _ (five-odd w (get_or bs (a / 2 * 9 + 4) 0) n m l e)
        ∙ five-put (a / 2 * 9 + 4) bs _ _ _ _ _ (omega arith)
        ∙ rw (one, two, three, four) (sym (cond-false (eqb (a % 2) 0) _ _ (ne_eqb (a % 2) 0 z)))

  -- a word put among the bytes is that word of the list, and no other word changes
  pub unpack-put_word : (w : ℕ) → w < 2 ^ 36 → unpack (put_word bs a w) ≡ set (unpack bs) a w
  unfolding put_word
  unpack-put_word w m =
      ⊎_elim
      (λ (z : a % 2 ≡ 0).
      let e : 2 * (a / 2) ≡ a = omega arith in
      ap unpack (cond-true (eqb (a % 2) 0) _ _ (eq-eqb (a % 2) 0 z)) ∙ (puts-pair bs (a / 2) w m (omega arith)).0 ∙ ap (λ n. set (unpack bs) n w) e)
      (λ (z : a % 2 ≡ 0 → ⊥).
      let e : suc (2 * (a / 2)) ≡ a = omega arith in
      ap unpack (cond-false (eqb (a % 2) 0) _ _ (ne_eqb (a % 2) 0 z)) ∙ (puts-pair bs (a / 2) w m (omega arith)).1 ∙ ap (λ n. set (unpack bs) n w) e)
      (cases_eq (a % 2) 0)

-- neither the length nor a byte past the pair's nine changes
length-five : (bs : List ℕ) (p q r s t u v x y z : ℕ) → length (set (set (set (set (set bs p u) q v) r x) s y) t z) ≡ length bs
length-five bs p q r s t u v x y z = length-set _ t z ∙ length-set _ s y ∙ length-set _ r x ∙ length-set _ q v ∙ length-set bs p u

drop-five : (n : ℕ) (bs : List ℕ) (p u v x y z : ℕ) → p + 4 < n → drop n (set (set (set (set (set bs p u) (p + 1) v) (p + 2) x) (p + 3) y) (p + 4) z) ≡ drop n bs
drop-five n bs p u v x y z l =
    drop-set-lt n _ (p + 4) z l ∙ drop-set-lt n _ (p + 3) y (omega arith) ∙ drop-set-lt n _ (p + 2) x (omega arith) ∙ drop-set-lt n _ (p + 1) v (omega arith) ∙ drop-set-lt n bs p u (omega arith)

pub length-put_word : (bs : List ℕ) (a w : ℕ) → length (put_word bs a w) ≡ length bs
unfolding put_word
length-put_word bs a w =
    cond_both (eqb (a % 2) 0) (put_even bs (a / 2 * 9) w) (put_odd bs (a / 2 * 9) w) (λ (xs : List ℕ). length xs ≡ length bs)
    (λ _. length-five bs _ _ _ _ _ _ _ _ _ _)
    (λ _. length-five bs _ _ _ _ _ _ _ _ _ _)

drop-put_odd : (n : ℕ) (bs : List ℕ) (p w : ℕ) → p + 8 < n → drop n (put_odd bs p w) ≡ drop n bs
drop-put_odd n bs p w l =
    drop-set-lt n _ (p + 8) _ l ∙ drop-set-lt n _ (p + 7) _ (omega arith) ∙ drop-set-lt n _ (p + 6) _ (omega arith) ∙ drop-set-lt n _ (p + 5) _ (omega arith) ∙ drop-set-lt n bs (p + 4) _ (omega arith)

drop-put_word : (n : ℕ) (bs : List ℕ) (a w : ℕ) → a / 2 * 9 + 8 < n → drop n (put_word bs a w) ≡ drop n bs
unfolding put_word
drop-put_word n bs a w l =
    cond_both (eqb (a % 2) 0) (put_even bs (a / 2 * 9) w) (put_odd bs (a / 2 * 9) w) (λ (xs : List ℕ). drop n xs ≡ drop n bs)
    (λ _. drop-five n bs (a / 2 * 9) _ _ _ _ _ (omega arith))
    (λ _. drop-put_odd n bs (a / 2 * 9) w l)

-- what is left over past the core's words is never written
pub left_over-put_word : (bs : List ℕ) (a w : ℕ) → a < length (cut (unpack bs)) → left_over (put_word bs a w) ≡ left_over bs
unfolding left_over
left_over-put_word bs a w l =
    rw (length-put_word bs a w) (drop-put_word (9 * min 131072 (length bs / 9)) bs a w (omega (arith, length_cut (unpack bs), length-unpack bs)))

pub ruleset places = (cuts, length-unpack, unpack-put_word, left_over-put_word)
