use Rattle.std.proofs.Common.{◌≡◌, ◌%◌, ◌^◌, get_or, rules, tests, arith}
use Rattle.words.proofs.FromFn.{made_at}
use Rattle.decks.proofs.beginning.accumulators.Goals as goal
use Rattle.words.specs.Word.{narrow_within}

pub returns : goal.returns
returns c =
    let made = c.from_fn.ensures.items in
    let each = made_at _ (λ i y. y ≡ get_or c.args.deck.now i 0 % 2 ^ 36) _ 16 (λ i y q l h. search (rules, tests)) c.from_fn.result made in
    record { value = λ k l. each k 0 l; narrow = narrow_within c.from_fn.result (λ a l. omega (arith, each a 0 (omega (arith, made.long)))) }
