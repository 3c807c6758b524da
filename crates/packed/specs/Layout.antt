-- The packed layout: two words in nine bytes, highest bits first.
use Rattle.std.specs.Prelude.{ℕ, ◌+◌, ◌*◌, ◌/◌, ◌%◌, ◌^◌, cond, List, [], ◌∷◌, set, ◌==◌, slice_index, slice_set}

-- the first word of a pair: four bytes and the high half of the fifth. Of numbers below 256 the sum is a word
-- as it stands; the remainder makes it one of any numbers
unfoldable pub even : ℕ → ℕ → ℕ → ℕ → ℕ → ℕ
even a b c d e = (a * 2 ^ 28 + b * 2 ^ 20 + c * 2 ^ 12 + d * 2 ^ 4 + e / 2 ^ 4) % 2 ^ 36

-- the second: the low half of the fifth byte and the four after it
unfoldable pub odd : ℕ → ℕ → ℕ → ℕ → ℕ → ℕ
odd e f g h i = (e % 2 ^ 4 * 2 ^ 32 + f * 2 ^ 24 + g * 2 ^ 16 + h * 2 ^ 8 + i) % 2 ^ 36

-- the first and the second word of the pair at byte p
abbrev pub even_at : List ℕ → ℕ → ℕ
even_at bs p = even (slice_index bs p) (slice_index bs (p + 1)) (slice_index bs (p + 2)) (slice_index bs (p + 3)) (slice_index bs (p + 4))

abbrev pub odd_at : List ℕ → ℕ → ℕ
odd_at bs p = odd (slice_index bs (p + 4)) (slice_index bs (p + 5)) (slice_index bs (p + 6)) (slice_index bs (p + 7)) (slice_index bs (p + 8))

-- two words for each nine bytes; fewer than nine are no word
unfoldable pub unpack : List ℕ → List ℕ
unpack (a ∷ b ∷ c ∷ d ∷ e ∷ f ∷ g ∷ h ∷ i ∷ bs) = even a b c d e ∷ odd e f g h i ∷ unpack bs
unpack (a ∷ b ∷ c ∷ d ∷ e ∷ f ∷ g ∷ h ∷ []) = []
unpack (a ∷ b ∷ c ∷ d ∷ e ∷ f ∷ g ∷ []) = []
unpack (a ∷ b ∷ c ∷ d ∷ e ∷ f ∷ []) = []
unpack (a ∷ b ∷ c ∷ d ∷ e ∷ []) = []
unpack (a ∷ b ∷ c ∷ d ∷ []) = []
unpack (a ∷ b ∷ c ∷ []) = []
unpack (a ∷ b ∷ []) = []
unpack (a ∷ []) = []
unpack [] = []

-- nine bytes for each two words
unfoldable pub pack : List ℕ → List ℕ
pack (u ∷ v ∷ ws) =
    (u / 2 ^ 28) ∷ (u / 2 ^ 20 % 2 ^ 8) ∷ (u / 2 ^ 12 % 2 ^ 8) ∷ (u / 2 ^ 4 % 2 ^ 8)
    ∷ (u % 2 ^ 4 * 2 ^ 4 + v / 2 ^ 32)
    ∷ (v / 2 ^ 24 % 2 ^ 8) ∷ (v / 2 ^ 16 % 2 ^ 8) ∷ (v / 2 ^ 8 % 2 ^ 8) ∷ (v % 2 ^ 8) ∷ pack ws
pack (u ∷ []) = []
pack [] = []

-- the bytes after w has come to the first word of the pair at byte p: the fifth byte keeps its low half
abbrev pub put_even : List ℕ → ℕ → ℕ → List ℕ
put_even bs p w =
    set (set (set (set (slice_set bs p (w / 2 ^ 28))
    (p + 1) (w / 2 ^ 20 % 2 ^ 8))
    (p + 2) (w / 2 ^ 12 % 2 ^ 8))
    (p + 3) (w / 2 ^ 4 % 2 ^ 8))
    (p + 4) (w % 2 ^ 4 * 2 ^ 4 + slice_index bs (p + 4) % 2 ^ 4)

-- the same of the second: the fifth byte keeps its high half
abbrev pub put_odd : List ℕ → ℕ → ℕ → List ℕ
put_odd bs p w =
    set (set (set (set (slice_set bs (p + 4) (slice_index bs (p + 4) / 2 ^ 4 * 2 ^ 4 + w / 2 ^ 32))
    (p + 5) (w / 2 ^ 24 % 2 ^ 8))
    (p + 6) (w / 2 ^ 16 % 2 ^ 8))
    (p + 7) (w / 2 ^ 8 % 2 ^ 8))
    (p + 8) (w % 2 ^ 8)

-- the bytes after w has come to word a
unfoldable pub put_word : List ℕ → ℕ → ℕ → List ℕ
put_word bs a w = cond (a % 2 == 0) (put_even bs (a / 2 * 9) w) (put_odd bs (a / 2 * 9) w)
