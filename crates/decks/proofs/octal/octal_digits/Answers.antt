use Rattle.std.proofs.Common.{◌≡◌, ◌+◌, ◌-◌, ◌*◌, ◌/◌, ◌%◌, ◌^◌, sym, ◌∙◌, rules, tests, arith}
use Rattle.std.proofs.lemmas.Grind.{same_number_lists}
use Rattle.decks.proofs.Digits.{length-octal, get_or-octal}
use Rattle.words.proofs.FromFn.{made_at}
use Rattle.decks.proofs.octal.octal_digits.Goals as goal

pub returns : goal.returns
returns c =
    let w = c.args.w in
    let made = c.from_fn.ensures.items in
    same_number_lists c.from_fn.result _ (omega (arith, length-octal 12 w, made.long)) (λ k l.
    made_at _ (λ j y. y ≡ 48 + w / 2 ^ (33 - 3 * j) % 8) _ 12 (λ i y q l h. search (rules, tests)) c.from_fn.result made k 0 (omega (arith, made.long))
    ∙ sym (get_or-octal 12 w k (33 - 3 * k) (omega (arith, made.long))))
