-- Numbers among bytes: reading one, and writing them one after another.
use Rattle.std.proofs.Common.{◌≡◌, ℕ, zero, suc, ◌+◌, ◌*◌, ◌/◌, ◌%◌, ◌^◌, ◌<◌, ◌≤◌, List, [], ◌∷◌, ◌++◌, length, get_or, take, drop, sym, refl, ap, ◌∙◌, arith}
use Rattle.ka10.specs.Numbers.{number, numbers, encoded, Wide, ReadAsWritten}
use Rattle.ka10.specs.Records.{record_in, record_of, record_numbers, record_bytes}
use Rattle.ka10.specs.declared.records.Record.{Record}
use Rattle.std.specs.Simd.{first_chunks}
use borrow.Rule.Slice.PartMut.{put_mid}
use Rattle.std.proofs.lemmas.Grind.{common_steps}
use Rattle.std.proofs.lemmas.List.{append_assoc, append-nil, get_or-append_right, drop_at, drop-drop, length-take-le, take_at}

-- what holds of every list shorter than eight, and of eight elements more wherever it holds, holds of every list
by-eights : (P : List ℕ → Type 0) → ((bs : List ℕ) → length bs < 8 → P bs) → ((a b c d e f g h : ℕ) (bs : List ℕ) → P bs → P (a ∷ b ∷ c ∷ d ∷ e ∷ f ∷ g ∷ h ∷ bs)) → (bs : List ℕ) → P bs
by-eights P short eight (a ∷ b ∷ c ∷ d ∷ e ∷ f ∷ g ∷ h ∷ bs) = eight a b c d e f g h bs (by-eights P short eight bs)
by-eights P short eight (a ∷ b ∷ c ∷ d ∷ e ∷ f ∷ g ∷ []) = short (a ∷ b ∷ c ∷ d ∷ e ∷ f ∷ g ∷ []) (omega arith)
by-eights P short eight (a ∷ b ∷ c ∷ d ∷ e ∷ f ∷ []) = short (a ∷ b ∷ c ∷ d ∷ e ∷ f ∷ []) (omega arith)
by-eights P short eight (a ∷ b ∷ c ∷ d ∷ e ∷ []) = short (a ∷ b ∷ c ∷ d ∷ e ∷ []) (omega arith)
by-eights P short eight (a ∷ b ∷ c ∷ d ∷ []) = short (a ∷ b ∷ c ∷ d ∷ []) (omega arith)
by-eights P short eight (a ∷ b ∷ c ∷ []) = short (a ∷ b ∷ c ∷ []) (omega arith)
by-eights P short eight (a ∷ b ∷ []) = short (a ∷ b ∷ []) (omega arith)
by-eights P short eight (a ∷ []) = short (a ∷ []) (omega arith)
by-eights P short eight [] = short [] (omega arith)

-- the number of eight bytes
abbrev pub number_of : List ℕ → ℕ
number_of bs = number (get_or bs 0 0) (get_or bs 1 0) (get_or bs 2 0) (get_or bs 3 0) (get_or bs 4 0) (get_or bs 5 0) (get_or bs 6 0) (get_or bs 7 0)

-- the k-th eight of the first n holds the k-th number
abbrev ReadsNumber : List ℕ → Type 0
ReadsNumber bs = (k n : ℕ) (d : List ℕ) → k < n → 8 * n ≤ length bs → get_or (numbers bs) k 0 ≡ number_of (get_or (first_chunks 8 n bs) k d)

reads_more : (a b c d e f g h : ℕ) (bs : List ℕ) → ReadsNumber bs → ReadsNumber (a ∷ b ∷ c ∷ d ∷ e ∷ f ∷ g ∷ h ∷ bs)
unfolding numbers
reads_more a b c d e f g h bs again k zero x l m = absurd (omega arith)
reads_more a b c d e f g h bs again zero (suc n) x l m = refl
reads_more a b c d e f g h bs again (suc k) (suc n) x l m = again k n x (omega arith) (omega arith)

pub get_or-numbers : (bs : List ℕ) → ReadsNumber bs
get_or-numbers = by-eights ReadsNumber (λ bs short k n x l m. absurd (omega arith)) reads_more

numbers-short : (bs : List ℕ) → length bs < 8 → numbers bs ≡ []
unfolding numbers
numbers-short (a ∷ b ∷ c ∷ d ∷ e ∷ f ∷ g ∷ h ∷ bs) l = absurd (omega arith)
numbers-short (a ∷ b ∷ c ∷ d ∷ e ∷ f ∷ g ∷ []) l = refl
numbers-short (a ∷ b ∷ c ∷ d ∷ e ∷ f ∷ []) l = refl
numbers-short (a ∷ b ∷ c ∷ d ∷ e ∷ []) l = refl
numbers-short (a ∷ b ∷ c ∷ d ∷ []) l = refl
numbers-short (a ∷ b ∷ c ∷ []) l = refl
numbers-short (a ∷ b ∷ []) l = refl
numbers-short (a ∷ []) l = refl
numbers-short [] l = refl

pub length-numbers : (bs : List ℕ) → length (numbers bs) ≡ length bs / 8
unfolding numbers
length-numbers =
    by-eights (λ bs. length (numbers bs) ≡ length bs / 8)
    (λ bs l. rw (numbers-short bs l) (omega arith))
    (λ a b c d e f g h bs again. omega (arith, again))

pub length-encoded : (ns : List ℕ) → length (encoded ns) ≡ 8 * length ns
unfolding encoded
length-encoded [] = refl
length-encoded (n ∷ ns) = omega (arith, length-encoded ns)

-- one number more
encoded-more : (i : ℕ) (ns : List ℕ) → i < length ns → encoded (take (i + 1) ns) ≡ encoded (take i ns) ++ encoded (get_or ns i 0 ∷ [])
unfolding encoded
encoded-more i [] l = absurd (omega arith)
encoded-more zero (n ∷ ns) l = refl
encoded-more (suc i) (n ∷ ns) l =
    let less : i < length ns = omega arith in
    let m : suc i + 1 ≡ suc (i + 1) = omega arith in
    rw m (ap (λ (t : List ℕ). encoded (n ∷ []) ++ t) (encoded-more i ns less))

-- a buffer whose first i numbers are written and whose others are as before, and then the next one written into it
pub number_more : (i : ℕ) (ns before now next : List ℕ) → i < length ns → now ≡ encoded (take i ns) ++ drop (8 * i) before → next ≡ encoded (get_or ns i 0 ∷ []) → take (8 * i) now ++ (next ++ drop 8 (drop (8 * i) now)) ≡ encoded (take (i + 1) ns) ++ drop (8 * (i + 1)) before
number_more i ns before now next l e f =
    let front = encoded (take i ns) in
    let long : length (encoded (take i ns)) ≡ 8 * i = omega (arith, length-encoded (take i ns), length-take-le i ns (omega arith)) in
    let kept : take (8 * i) now ≡ front = ap (take (8 * i)) e ∙ take_at front (drop (8 * i) before) (8 * i) long in
    let past : drop (8 * i) now ≡ drop (8 * i) before = ap (drop (8 * i)) e ∙ drop_at front (drop (8 * i) before) (8 * i) long in
    let after : 8 * i + 8 ≡ 8 * (i + 1) = omega arith in
    let rest : drop 8 (drop (8 * i) now) ≡ drop (8 * (i + 1)) before = ap (drop 8) past ∙ drop-drop 8 (8 * i) before ∙ ap (λ n. drop n before) after in
    rw (kept, rest, f) (sym (append_assoc front (encoded (get_or ns i 0 ∷ [])) (drop (8 * (i + 1)) before)) ∙ ap (λ (t : List ℕ). t ++ drop (8 * (i + 1)) before) (sym (encoded-more i ns l)))

-- twenty numbers after the first sixteen and then the last four were written
pub in_turn : (a b : List ℕ) → length a ≡ 16 → put_mid 16 4 (a ++ 0 ∷ 0 ∷ 0 ∷ 0 ∷ []) b ≡ a ++ b
in_turn a b l = rw (take_at a (0 ∷ 0 ∷ 0 ∷ 0 ∷ []) 16 l, drop_at a (0 ∷ 0 ∷ 0 ∷ 0 ∷ []) 16 l) (ap (λ (t : List ℕ). a ++ t) (append-nil b))

number-back : (n : ℕ) → n < 2 ^ 64 → number (n / 2 ^ 56 % 2 ^ 8) (n / 2 ^ 48 % 2 ^ 8) (n / 2 ^ 40 % 2 ^ 8) (n / 2 ^ 32 % 2 ^ 8) (n / 2 ^ 24 % 2 ^ 8) (n / 2 ^ 16 % 2 ^ 8) (n / 2 ^ 8 % 2 ^ 8) (n % 2 ^ 8) ≡ n
number-back n l = omega arith

pub read-as-written : ReadAsWritten
unfolding numbers encoded
read-as-written [] wide = refl
read-as-written (n ∷ ns) wide =
    let first = number-back n (wide 0) in
    let rest = read-as-written ns (λ k. wide (suc k)) in
    cc

in-places : (p : Record) → length p.accumulators ≡ 16 → record_in (p.accumulators ++ (p.pc ∷ p.flags ∷ p.count ∷ p.allowance ∷ [])) ≡ p
in-places p sixteen =
    let last = p.pc ∷ p.flags ∷ p.count ∷ p.allowance ∷ [] in
    let a = take_at p.accumulators last 16 sixteen in
    let b = get_or-append_right p.accumulators last 16 16 0 sixteen (omega arith) in
    let c = get_or-append_right p.accumulators last 16 17 0 sixteen (omega arith) in
    let d = get_or-append_right p.accumulators last 16 18 0 sixteen (omega arith) in
    let e = get_or-append_right p.accumulators last 16 19 0 sixteen (omega arith) in
    rw (a, b, c, d, e)

-- for `grind`
pub ruleset call_laws = (common_steps, read-as-written)

-- a record is read as it was written
pub record-as-written : (p : Record) → length p.accumulators ≡ 16 → Wide (record_numbers p) → record_of (record_bytes p) ≡ p
record-as-written p sixteen w = ap record_in (read-as-written (record_numbers p) w) ∙ in-places p sixteen
