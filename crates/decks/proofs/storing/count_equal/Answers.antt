use Rattle.std.proofs.Common.{◌≡◌, ℕ, sym, ◌∙◌, rules, tests}
use Rattle.std.proofs.lemmas.Iterator.{YieldsList-from_slice}
use Rattle.std.proofs.lemmas.Iterator.Consumers.{YieldsList-from_enumerate, YieldsList-from_filter, count_from_yields_List}
use Rattle.std.proofs.lemmas.List.Sums.{length-filter}
use Rattle.std.specs.List.{enumerate_from}
use Rattle.decks.specs.Storing.{agreeing, holds_at}
use Rattle.decks.proofs.Agrees.{count_by-holds_at, agreeing-all, agreeing-only}
use Rattle.decks.proofs.storing.count_equal.Goals as goal

pub returns : goal.returns
returns g c =
    let xs = g.C.Core.words c.args.core.now in
    let ws = c.args.words.now in
    let held = λ (p : ℕ × ℕ). holds_at xs p.0 p.1 in
    let found = count_from_yields_List c.filter.result _ c.count.ensures.ran (YieldsList-from_filter _ held (YieldsList-from_enumerate (YieldsList-from_slice ws cc) (cc)) c.filter.ensures.closure (λ x b q k. search (rules, tests))) in
    let value : c.count.result ≡ agreeing xs ws = found ∙ length-filter held (enumerate_from 0 ws) ∙ count_by-holds_at xs ws in
    record { value = value; all = λ e. value ∙ agreeing-all xs ws e; only = λ e. agreeing-only xs ws (sym value ∙ e) }
