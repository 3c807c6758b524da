-- The effective address.
use Rattle.std.specs.Prelude.{ℕ, zero, suc, ◌+◌, ◌%◌, ◌^◌, ◌<◌, cond, List, Some, Ok, Err, Option, Result, ◌==◌, slice_index}
use Rattle.operations.specs.Fields.{index, direct}
use Rattle.logic.specs.Halves.{right}
use Rattle.machine.specs.Endings.{and_then}
use Rattle.machine.specs.User.{fetched}
use Rattle.machine.specs.declared.located.Located.{Located}
use Rattle.std.proofs.Common.{arith}
use Rattle.std.proofs.lemmas.Bool.{cond_both}
use Rattle.stops.specs.declared.stop.Stop.{Stop}
use Rattle.stops.specs.declared.stop.Stop.TheVariants.{AddressWords}

-- the address that one word gives: its own, with the right half of its index register added if it has one
abbrev pub word_address : List ℕ → ℕ → ℕ
word_address u w = cond (index w == 0) (right w) ((right w + right (slice_index u (index w))) % 2 ^ 18)

pub word_address-narrow : (u : List ℕ) (w : ℕ) → word_address u w < 2 ^ 18
word_address-narrow u w =
    cond_both (index w == 0) (right w) ((right w + right (slice_index u (index w))) % 2 ^ 18)
    (λ a. a < 2 ^ 18) (λ _. omega arith) (λ _. omega arith)

-- where the last address level has flags: in its index register if it has one, else in the address word that it is
abbrev pub flag_word_of : Option ℕ → List ℕ → ℕ → Option ℕ
flag_word_of last u w = cond (index w == 0) last (Some (slice_index u (index w)))

-- what the word w gives; last is w itself if it was fetched as an address word
unfoldable pub located : Option ℕ → List ℕ → ℕ → Located
located last u w = record { address = word_address u w; flag_word = flag_word_of last u w; narrow = word_address-narrow u w }

-- the search for the address, from the word w on, while n more address words may be fetched; last is the address
-- word that w is, and none if w is the executed word
unfoldable pub effective : ℕ → Option ℕ → List ℕ → ℕ → Result Located Stop
effective zero last u w = cond (direct w) (Ok (located last u w)) (Err AddressWords)
effective (suc n) last u w =
    cond (direct w) (Ok (located last u w))
    (and_then (fetched u (located last u w).address) (λ v. effective n (Some v) u v))
