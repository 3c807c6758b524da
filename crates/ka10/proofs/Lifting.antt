-- From the bytes of a block to the core that it lies in.
use Rattle.std.proofs.Common.{◌≡◌, ℕ, ◌+◌, ◌-◌, ◌*◌, ◌≤◌, List, ◌++◌, length, take, drop, sym, ap, ◌∙◌, subst, arith, take-add}
use Rattle.operations.specs.declared.effect.Status.{Status}
use Rattle.packed.proofs.Parts.{words-of-part}
use Rattle.ka10.specs.Calls.{outcome, record_after, Ran}
use Rattle.ka10.specs.declared.records.Record.{Record}
use Rattle.machine.specs.Steps.{machine, run_of, Replied, replied}
use Rattle.machine.specs.User.{user_of}
use Rattle.memory.specs.Cut.{length_cut}
use Rattle.packed.specs.Layout.{unpack}
use Rattle.packed.specs.Words.{packed_words, length-unpack}
use Rattle.std.proofs.lemmas.Grind.{common_steps}
use Rattle.std.proofs.lemmas.List.{drop_at, drop-drop, drop-take, length-append, length-drop, length-take-le, take-append-le, take_at, take-take}
use Rattle.std.proofs.lemmas.Slice.{drop-put_mid}
use borrow.Rule.Slice.PartMut.{put_mid}

-- the bytes of a block
abbrev pub block_of : List ℕ → ℕ → ℕ → List ℕ
block_of core base blocks = take (4608 * blocks) (drop (4608 * base) core)

-- they hold the block's words
block-words : (core : List ℕ) (base blocks : ℕ) → 1024 * (base + blocks) ≤ length (packed_words core) → packed_words (block_of core base blocks) ≡ take (1024 * blocks) (drop (1024 * base) (packed_words core))
block-words core base blocks l =
    let b : 9 * (512 * blocks) ≡ 4608 * blocks = omega arith in
    let a : 9 * (512 * base) ≡ 4608 * base = omega arith in
    let c : 2 * (512 * blocks) ≡ 1024 * blocks = omega arith in
    let d : 2 * (512 * base) ≡ 1024 * base = omega arith in
    rw (← a, ← b, ← c, ← d) (words-of-part core (512 * base) (512 * blocks) (omega arith))

-- what lies past the first sixteen of a part of a list
past-sixteen : (ws : List ℕ) (m n : ℕ) → 16 ≤ n → take (n - 16) (drop 16 (take n (drop m ws))) ≡ take (n - 16) (drop (m + 16) ws)
past-sixteen ws m n l =
    let e : n ≡ 16 + (n - 16) = omega arith in
    ap (λ k. take (n - 16) (drop 16 (take k (drop m ws)))) e
    ∙ ap (take (n - 16)) (drop-take 16 (n - 16) (drop m ws) ∙ ap (take (n - 16)) (drop-drop 16 m ws))
    ∙ take-take (n - 16) (n - 16) (drop (m + 16) ws) (omega arith)

-- a program sees the same words in its block alone
pub user-in-block : (accumulators core : List ℕ) (base blocks : ℕ) → 1 ≤ blocks → 1024 * (base + blocks) ≤ length (packed_words core) → user_of accumulators base blocks (packed_words core) ≡ user_of accumulators 0 blocks (packed_words (block_of core base blocks))
unfolding user_of
user-in-block accumulators core base blocks some l =
    ap (λ (t : List ℕ). accumulators ++ t)
    (sym (ap (λ (t : List ℕ). take (1024 * blocks - 16) (drop 16 t)) (block-words core base blocks l)
    ∙ past-sixteen (packed_words core) (1024 * base) (1024 * blocks) (omega arith)))

-- a word takes half of nine bytes
pub words-in-bytes : (core : List ℕ) → 9 * length (packed_words core) ≤ 2 * length core
words-in-bytes core = omega (arith, length_cut (unpack core), length-unpack core)

pub words-at-most : (core : List ℕ) → length (packed_words core) ≤ 262144
words-at-most core = omega (arith, length_cut (unpack core))

-- a block that has its words in a core has its bytes there
pub block_within : (core : List ℕ) (base blocks : ℕ) → 1024 * (base + blocks) ≤ length (packed_words core) → (4608 * (base + blocks) ≤ length core) × (base + blocks ≤ 256)
block_within core base blocks inside = (omega (arith, words-in-bytes core), omega (arith, words-at-most core))

-- a block of a core, and the core after that block has come to hold other bytes
module _ (core block' : List ℕ) (base blocks : ℕ) (inside : 1024 * (base + blocks) ≤ length (packed_words core)) (some : 1 ≤ blocks) (as_long : length block' ≡ 4608 * blocks) where
  abbrev core' : List ℕ
  core' = put_mid (4608 * base) (4608 * blocks) core block'

  long : 4608 * (base + blocks) ≤ length core
  long = (block_within core base blocks inside).0

  front : length (take (4608 * base) core) ≡ 4608 * base
  front = length-take-le (4608 * base) core (omega (arith, long))

  back : drop (4608 * base) core' ≡ block' ++ drop (4608 * blocks) (drop (4608 * base) core)
  back = drop_at (take (4608 * base) core) _ (4608 * base) front

  block-then : block_of core' base blocks ≡ block'
  block-then = ap (take (4608 * blocks)) back ∙ take_at block' _ (4608 * blocks) as_long

  as-long-then : length core' ≡ length core
  as-long-then =
      omega (arith, long, front, length-append (take (4608 * base) core) (block' ++ drop (4608 * blocks) (drop (4608 * base) core)), length-append block' (drop (4608 * blocks) (drop (4608 * base) core)), length-drop (4608 * blocks) (drop (4608 * base) core), length-drop (4608 * base) core)

  inside-then : 1024 * (base + blocks) ≤ length (packed_words core')
  inside-then = omega (arith, as-long-then, length_cut (unpack core), length-unpack core, length_cut (unpack core'), length-unpack core')

  below-kept : take 72 block' ≡ take 72 (block_of core base blocks) → take (4608 * base + 72) core' ≡ take (4608 * base + 72) core
  below-kept lowest =
      let rest = drop (4608 * blocks) (drop (4608 * base) core) in
      let then : take 72 (drop (4608 * base) core') ≡ take 72 (drop (4608 * base) core) =
      ap (take 72) back ∙ take-append-le 72 block' rest (omega arith) ∙ lowest ∙ take-take 72 (4608 * blocks) (drop (4608 * base) core) (omega arith) in
      take-add (4608 * base) 72 core'
      ∙ ap (λ (t : List ℕ). t ++ take 72 (drop (4608 * base) core')) (take_at (take (4608 * base) core) _ (4608 * base) front)
      ∙ ap (λ (t : List ℕ). take (4608 * base) core ++ t) then
      ∙ sym (take-add (4608 * base) 72 core)

  above_kept : drop (4608 * (base + blocks)) core' ≡ drop (4608 * (base + blocks)) core
  above_kept = drop-put_mid (4608 * base) (4608 * blocks) core block' (4608 * (base + blocks)) (omega arith) (omega (arith, long)) as_long

  ran-in-whole : (p : Record) (steps : ℕ) (left : Record) (numbers : List ℕ) → Ran 0 blocks p (outcome p 0 blocks steps (block_of core base blocks)) (block_of core base blocks) block' left numbers → Ran base blocks p (outcome p base blocks steps core) core core' left numbers
  ran-in-whole p steps left numbers h =
      let status : Status = record { pc = p.pc; flags = p.flags } in
      let out = outcome p 0 blocks steps (block_of core base blocks) in
      let same : out ≡ outcome p base blocks steps core = ap (λ (u : List ℕ). replied (run_of steps (machine u status))) (sym (user-in-block p.accumulators core base blocks some inside)) in
      subst (λ (o : Replied). Ran base blocks p o core core' left numbers) same
      (record {
        program = h.program;
        reply = h.reply;
        user =
            user-in-block (record_after p out).accumulators core' base blocks some inside-then
            ∙ ap (λ (b : List ℕ). user_of (record_after p out).accumulators 0 blocks (packed_words b)) block-then
            ∙ h.user;
        below = below-kept h.below;
        above = above_kept;
      })

  -- what a run in the block leaves is what a run in the core leaves; n is the block's length as the code computes it
  pub ran-in-core : (p : Record) (steps : ℕ) (left : Record) (numbers : List ℕ) (n : ℕ) → n ≡ 4608 * blocks → Ran 0 blocks p (outcome p 0 blocks steps (take n (drop (4608 * base) core))) (take n (drop (4608 * base) core)) block' left numbers → Ran base blocks p (outcome p base blocks steps core) core (put_mid (4608 * base) n core block') left numbers
  ran-in-core p steps left numbers n e =
      subst (λ k. Ran 0 blocks p (outcome p 0 blocks steps (take k (drop (4608 * base) core))) (take k (drop (4608 * base) core)) block' left numbers → Ran base blocks p (outcome p base blocks steps core) core (put_mid (4608 * base) k core block') left numbers)
      (sym e) (ran-in-whole p steps left numbers)

-- for `grind`
pub ruleset block_laws = (common_steps, words-in-bytes, words-at-most)
