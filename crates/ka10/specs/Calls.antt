-- A call by bytes: when it is refused, and what it does when it is not.
use Rattle.std.specs.Prelude.{◌≡◌, ℕ, ◌+◌, ◌*◌, ◌/◌, ◌%◌, ◌≤◌, Bool, true, cond, ◌&&◌, List, [], ◌∷◌, length, take, drop, Ok, Err, Result, ◌==◌, nat_le}
use Rattle.ka10.specs.Numbers.{encoded}
use Rattle.ka10.specs.Records.{record_of, record_bytes, good_record}
use Rattle.ka10.specs.declared.records.Record.{Record}
use Rattle.machine.specs.Steps.{Machine, machine, run_of, Replied, replied}
use Rattle.machine.specs.User.{user_of}
use Rattle.packed.specs.Words.{packed_words}
use Rattle.stops.specs.Stops.{stop_number, stop_word}
use Rattle.stops.specs.declared.stop.Stop.{Stop}
use Rattle.words.specs.Refusals.{number_of}
use Rattle.words.specs.declared.refusal.Refusal.{Refusal}
use Rattle.words.specs.declared.refusal.Refusal.TheVariants.{CoreNotWholeBlocks, PlaceOutsideCore, BadRecord, BadStepsOrSkip, AllowanceExceeded}

-- a core of so many words is whole blocks of 1,024
abbrev pub whole_blocks : ℕ → Bool
whole_blocks words = nat_le 1024 words && words % 1024 == 0

-- a place of so many blocks from that block on lies in a core of so many words
abbrev pub in_core : ℕ → ℕ → ℕ → Bool
in_core words base blocks = nat_le 1 blocks && nat_le (base + blocks) (words / 1024)

abbrev pub good_steps : ℕ → Bool
good_steps steps = nat_le 1 steps && nat_le steps 1000000

-- that refusal unless the test holds
abbrev pub unless : Bool → Refusal → Result Record Refusal → Result Record Refusal
unless test e next = cond test next (Err e)

-- the record that a run is made with, or the first refusal that applies. A record has 160 bytes, and a reply 24
unfoldable pub admitted : ℕ → ℕ → ℕ → ℕ → List ℕ → ℕ → Result Record Refusal
admitted words base blocks steps bytes reply_length =
    unless (whole_blocks words) CoreNotWholeBlocks
    (unless (in_core words base blocks) PlaceOutsideCore
    (unless (length bytes == 160 && reply_length == 24) BadRecord
    (unless (good_record (record_of bytes)) BadRecord
    (unless (good_steps steps) BadStepsOrSkip
    (unless (nat_le ((record_of bytes).count + steps) (record_of bytes).allowance) AllowanceExceeded
    (Ok (record_of bytes)))))))

-- what is known of an admitted call
pub record Fit (words base blocks steps : ℕ) (bytes : List ℕ) (n : ℕ) (p : Record) : Type 0 where
  pub some : 1 ≤ blocks
  pub inside : 1024 * (base + blocks) ≤ words
  pub record_length : length bytes ≡ 160
  pub reply_length : n ≡ 24
  pub good : good_record p ≡ true
  pub few : steps ≤ 1000000

-- the bytes that a caller lends: of the core, of the program's record and of the reply
pub record Lent : Type 0 where
  pub core : List ℕ
  pub program : List ℕ
  pub reply : List ℕ

abbrev pub lent : List ℕ → List ℕ → List ℕ → Lent
lent core program reply = record { core = core; program = program; reply = reply }

-- the program that a record says, in its place in the core
abbrev pub machine_of : Record → ℕ → ℕ → List ℕ → Machine
machine_of p base blocks core = machine (user_of p.accumulators base blocks (packed_words core)) (record { pc = p.pc; flags = p.flags })

-- its run
abbrev pub outcome : Record → ℕ → ℕ → ℕ → List ℕ → Replied
outcome p base blocks steps core = replied (run_of steps (machine_of p base blocks core))

-- its record after a run: the count has grown by the steps done, and the allowance is as it was
abbrev pub record_after : Record → Replied → Record
record_after p out =
    record {
      accumulators = take 16 out.after.user;
      pc = out.after.status.pc;
      flags = out.after.status.flags;
      count = p.count + out.steps;
      allowance = p.allowance;
    }

-- steps done, stop and word
abbrev pub numbers_of : ℕ → Stop → List ℕ
numbers_of steps stop = steps ∷ stop_number stop ∷ stop_word stop ∷ []

abbrev pub reply_numbers : Replied → List ℕ
reply_numbers out = numbers_of out.steps out.stop

abbrev pub reply_bytes : Replied → List ℕ
reply_bytes out = encoded (reply_numbers out)

-- what a run leaves in a core, with the record and the numbers of the reply that are to be written
pub record Ran (base blocks : ℕ) (p : Record) (out : Replied) (before after : List ℕ) (left : Record) (numbers : List ℕ) : Type 0 where
  pub program : left ≡ record_after p out
  pub reply : numbers ≡ reply_numbers out
  pub user : user_of (record_after p out).accumulators base blocks (packed_words after) ≡ out.after.user
  pub below : take (4608 * base + 72) after ≡ take (4608 * base + 72) before
  pub above : drop (4608 * (base + blocks)) after ≡ drop (4608 * (base + blocks)) before

-- what a run by bytes leaves: the reply, and the record, which is read as it was written; in the core, the program's
-- words as after the run, and every other byte as it was. 4,608 bytes hold a block, and 72 its lowest sixteen words
pub record Done (base blocks : ℕ) (p : Record) (out : Replied) (before after : Lent) : Type 0 where
  pub reply : after.reply ≡ reply_bytes out
  pub program : after.program ≡ record_bytes (record_after p out)
  pub again : record_of after.program ≡ record_after p out
  pub user : user_of (record_after p out).accumulators base blocks (packed_words after.core) ≡ out.after.user
  pub below : take (4608 * base + 72) after.core ≡ take (4608 * base + 72) before.core
  pub above : drop (4608 * (base + blocks)) after.core ≡ drop (4608 * (base + blocks)) before.core

-- refused, a call changes nothing and answers the refusal; else it makes the run
abbrev pub Answered : Result Record Refusal → ℕ → ℕ → ℕ → Lent → Lent → Result (Unit {0}) Refusal → Type 0
Answered (Err e) base blocks steps before after r = (r ≡ Err e) × (after ≡ before)
Answered (Ok p) base blocks steps before after r = (r ≡ Ok tt) × Done base blocks p (outcome p base blocks steps before.core) before after

abbrev pub RunsByBytes : ℕ → ℕ → ℕ → Lent → Lent → Result (Unit {0}) Refusal → Type 0
RunsByBytes base blocks steps before after r =
    Answered (admitted (length (packed_words before.core)) base blocks steps before.program (length before.reply)) base blocks steps before after r

-- an answer as a number: 0, or the refusal's
abbrev pub answer_number : Result (Unit {0}) Refusal → ℕ
answer_number (Ok u) = 0
answer_number (Err e) = number_of e

-- the same call, whose answer comes as a number
abbrev pub RunsByNumber : ℕ → ℕ → ℕ → Lent → Lent → ℕ → Type 0
RunsByNumber base blocks steps before after n =
    (r : Result (Unit {0}) Refusal) × RunsByBytes base blocks steps before after r × (n ≡ answer_number r)
