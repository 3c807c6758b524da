use Rattle.ka10.proofs.Eights.{read-as-written}
use Rattle.ka10.proofs.Runs.{done-written}
use Rattle.ka10.proofs.call.ka10_run.Goals as goal
use Rattle.ka10.specs.Calls.{lent, admitted, numbers_of, outcome, Ran, Answered}
use Rattle.ka10.specs.Numbers.{encoded}
use Rattle.ka10.specs.declared.records.Record.{Record}
use Rattle.std.proofs.Common.{◌≡◌, List, Ok, length, Result, refl, ◌∙◌, subst, rules}
use Rattle.words.specs.declared.refusal.Refusal.{Refusal}

pub returns : goal.returns
returns c =
    let p = c.in_ok-given.given in
    let base = c.args.base in
    let blocks = c.args.blocks in
    let steps = c.args.steps in
    let left = c.run_in_core-left.result in
    let numbers = numbers_of left.reply.steps left.reply.stop in
    let before = lent c.args.core.now c.args.record.now c.args.reply.now in
    let after = lent c.run_in_core-left.new.core c.write_numbers.new.bytes c.write_numbers-2.new.bytes in
    let sixteen : length c.run_in_core-left.result.«record».accumulators ≡ 16 = search rules in
    let ran = subst (λ (b : List _). Ran base blocks p (outcome p base blocks steps b) b after.core left.«record» numbers) c.word_count.ensures.same c.run_in_core-left.ensures in
    let number = c.number.ensures in
    let word = c.word.ensures in
    let written : after.reply ≡ encoded numbers = c.write_numbers-2.ensures.bytes ∙ rw (number, word) in
    let done = done-written base blocks p _ before after left.«record» _ numbers ran c.from.ensures sixteen c.write_numbers.ensures.wide c.write_numbers.ensures.bytes written in
    let answer = subst (λ (a : Result Record Refusal). Answered a base blocks steps before after (Ok tt)) c.in_ok-given.ensures.tests (refl, done) in
    record { runs = subst (λ n. Answered (admitted n base blocks steps c.args.record.now (length c.args.reply.now)) base blocks steps before after (Ok tt)) c.word_count.ensures.count answer; read_as_written = read-as-written }
