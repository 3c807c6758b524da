-- What a good record is known by.
use Rattle.std.proofs.Common.{◌≡◌, ◌≤◌, true}
use Rattle.ka10.specs.Records.{good_record}
use Rattle.ka10.specs.declared.records.Record.{Record}
use Rattle.std.proofs.lemmas.Bool.{and_parts, leb-true}
use Rattle.words.specs.Word.{are_words}

-- what is known of a record that is good
pub record Good (p : Record) : Type 0 where
  pub words : are_words p.accumulators ≡ true
  pub count : p.count ≤ p.allowance
  pub allowance : p.allowance ≤ 1000000000000

pub good-parts : (p : Record) → good_record p ≡ true → Good p
good-parts p h =
    let a = and_parts _ _ h in
    let b = and_parts _ _ a.0 in
    let c = and_parts _ _ b.0 in
    let d = and_parts _ _ c.0 in
    record { words = d.0; count = leb-true _ _ b.1; allowance = leb-true _ _ a.1 }
