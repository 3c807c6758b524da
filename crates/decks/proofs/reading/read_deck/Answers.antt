use Rattle.std.proofs.Common.{arith}
use Rattle.decks.proofs.Back.{reads-back}
use Rattle.decks.proofs.reading.read_deck.Goals as goal
use Rattle.std.proofs.lemmas.Grind.{common_steps}

pub returns-in_err-map_err-clause-back : goal.returns-in_err-map_err-clause-back
returns-in_err-map_err-clause-back c = reads-back c.args.text.now c.from_residual.result (grind (arith, common_steps))

pub returns-clause-back : goal.returns-clause-back
returns-clause-back c = reads-back c.args.text.now c.map_err-2.result (grind (arith, common_steps))
