use Rattle.std.proofs.Common.{◌≡◌, ℕ, ◌/◌, List, [], get_or, length, sym, ap, ◌∙◌, rules, tests, arith}
use Rattle.ka10.proofs.Eights.{number_of, get_or-numbers, length-numbers}
use Rattle.words.proofs.FromFn.{made_at}
use Rattle.ka10.proofs.numbers.read_numbers.Goals as goal
use Rattle.std.proofs.lemmas.Grind.{same_number_lists}

pub returns : goal.returns
returns c =
    let bs = c.args.bytes.now in
    let made = c.from_fn.ensures.items in
    same_number_lists c.from_fn.result _ (omega (arith, length-numbers bs, made.long)) (λ k l.
    made_at _ (λ j y. y ≡ number_of (get_or c.as_chunks.result.0.now j [])) _ 20 (λ i y q l h. search (rules, tests)) c.from_fn.result made k 0 (omega (arith, made.long))
    ∙ ap (λ (t : List (List ℕ)). number_of (get_or t k [])) c.as_chunks.ensures.front
    ∙ sym (get_or-numbers bs k (length bs / 8) [] (omega (arith, made.long)) (omega arith)))
