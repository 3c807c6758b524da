-- Two words side by side are a number of 72 bits, and its halves are the two words again.
use Rattle.std.proofs.Common.{◌≡◌, ℕ, ◌%◌, ◌^◌, ◌<◌, ap, ap₂, ◌∙◌, arith}
use Rattle.shifts.specs.Pair.{paired, halves}

pub paired-below : (a b : ℕ) → paired a b < 2 ^ 72
paired-below a b = omega arith

pub paired-halves : (m : ℕ) → m < 2 ^ 72 → paired (halves m).0 (halves m).1 ≡ m
paired-halves m h = omega arith

pub halves-paired : (a b : ℕ) → halves (paired a b) ≡ (a % 2 ^ 36, b % 2 ^ 36)
halves-paired a b = ap₂ (λ (x y : ℕ). (x, y)) (omega arith) (omega arith)

-- to cut the words first changes nothing
pub paired_low : (a b : ℕ) {p : ℕ × ℕ} → p ≡ (a % 2 ^ 36, b % 2 ^ 36) → paired p.0 p.1 ≡ paired a b
paired_low a b e = ap (λ (q : ℕ × ℕ). paired q.0 q.1) e ∙ omega arith
