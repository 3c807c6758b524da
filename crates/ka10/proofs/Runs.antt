-- A run in the bytes of a block alone.
use Rattle.std.proofs.Common.{◌≡◌, ℕ, zero, suc, ◌+◌, ◌-◌, ◌*◌, ◌≤◌, List, length, take, drop, Some, None, Option, sym, ap, ◌∙◌, subst, arith}
use Rattle.operations.specs.declared.effect.Status.{Status}
use Rattle.ka10.proofs.Eights.{record-as-written}
use Rattle.ka10.specs.Calls.{Lent, Done, Ran, reply_numbers}
use Rattle.ka10.specs.Numbers.{encoded, Wide}
use Rattle.ka10.specs.Records.{record_of, record_numbers, record_bytes}
use Rattle.ka10.specs.declared.records.Record.{Record}
use Rattle.machine.specs.Steps.{Machine, machine, Replied, ran, run_of, step_of, goes_on}
use Rattle.machine.specs.User.{user, user_of}
use Rattle.machine.specs.declared.space.Space.{Space}
use Rattle.packed.specs.Words.{packed_words}
use Rattle.std.proofs.lemmas.List.{drop_all, take_at}
use Rattle.std.proofs.lemmas.Bool.{cond_both}
use Rattle.stops.specs.Stops.{step_counts}
use Rattle.stops.specs.declared.stop.Stop.{Stop}

-- a run does no more steps than it is asked for
goes-within : (t : Option Stop) (x : Machine) (n : ℕ) → (run_of n x).steps ≤ n → (goes_on t x (run_of n)).steps ≤ suc n
goes-within None x n h = omega arith
goes-within (Some t) x n h = cond_both (step_counts t) 1 0 (λ k. k ≤ suc n) (λ _. omega arith) (λ _. omega arith)

pub run-within : (n : ℕ) (m : Machine) → (run_of n m).steps ≤ n
unfolding run_of
run-within zero m = omega arith
run-within (suc n) m = goes-within (step_of m).stop (step_of m).after n (run-within n (step_of m).after)

-- the user words begin with the accumulators
user-front : (accumulators : List ℕ) (base blocks : ℕ) (ws : List ℕ) → length accumulators ≡ 16 → take 16 (user_of accumulators base blocks ws) ≡ accumulators
unfolding user_of
user-front accumulators base blocks ws h = take_at accumulators (take (1024 * blocks - 16) (drop (1024 * base + 16) ws)) 16 h

module _ (p : Record) (blocks : ℕ) (before after : List ℕ) (space : Space) (s : Status) (d : ℕ) (t : Stop) (sixteen : length space.accumulators ≡ 16) (at-0 : space.base ≡ 0) (same_blocks : space.blocks ≡ blocks) where
  abbrev ends : Replied
  ends = ran (machine (user space (packed_words after)) s) d t

  -- the record with these accumulators
  abbrev with-words : List ℕ → Record
  with-words a = record { accumulators = a; pc = s.pc; flags = s.flags; count = p.count + d; allowance = p.allowance }

  -- what a run in a block leaves: this space and this status are the program's then, and d steps are done
  pub ran-in-block : (out : Replied) → ends ≡ out → length before ≡ 4608 * blocks → length after ≡ 4608 * blocks → (left : Record) (numbers : List ℕ) → left ≡ with-words space.accumulators → numbers ≡ reply_numbers ends → take 72 after ≡ take 72 before → Ran 0 blocks p out before after left numbers
  ran-in-block out e lb la left numbers program reply lowest =
      let ws = packed_words after in
      let front = user-front space.accumulators space.base space.blocks ws sixteen in
      subst (λ (o : Replied). Ran 0 blocks p o before after left numbers) e
      (record {
        program = program ∙ ap with-words (sym front);
        reply = reply;
        user = ap (λ (a : List ℕ). user_of a 0 blocks ws) front ∙ ap (λ b. user_of space.accumulators b blocks ws) (sym at-0) ∙ ap (λ n. user_of space.accumulators space.base n ws) (sym same_blocks);
        below = lowest;
        above = drop_all (4608 * (0 + blocks)) after (omega arith) ∙ sym (drop_all (4608 * (0 + blocks)) before (omega arith));
      })

-- a run whose record and reply were written
pub done-written : (base blocks : ℕ) (p : Record) (out : Replied) (before after : Lent) (left : Record) (ns numbers : List ℕ) → Ran base blocks p out before.core after.core left numbers → ns ≡ record_numbers left → length left.accumulators ≡ 16 → Wide ns → after.program ≡ encoded ns → after.reply ≡ encoded numbers → Done base blocks p out before after
done-written base blocks p out before after left ns numbers h e sixteen wide program reply =
    let all : after.program ≡ record_bytes left = program ∙ ap encoded e in
    record {
      reply = reply ∙ ap encoded h.reply;
      program = all ∙ ap record_bytes h.program;
      again = ap record_of all ∙ record-as-written left sixteen (subst Wide e wide) ∙ h.program;
      user = h.user;
      below = h.below;
      above = h.above;
    }
