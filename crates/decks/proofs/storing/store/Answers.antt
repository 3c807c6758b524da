use Rattle.std.proofs.Common.{◌≡◌, ℕ, ◌+◌, ◌<◌, List, [], ◌∷◌, ◌++◌, length, get_or, take, drop, set, sym, ap, ◌∙◌, arith}
use Rattle.std.proofs.lemmas.List.{append_assoc, drop_more, length-take-le, set_at, take_more}
use Rattle.decks.proofs.storing.store.Goals as goal

-- the next word goes to its address
set-put : (ws old : List ℕ) (i : ℕ) → i < length ws → i < length old → set (take i ws ++ drop i old) i (get_or ws i 0) ≡ take (i + 1) ws ++ drop (i + 1) old
set-put ws old i l m =
    let w = get_or ws i 0 in
    ap (λ t. set (take i ws ++ t) i w) (drop_more old i 0 m)
    ∙ set_at (take i ws) (get_or old i 0) (drop (i + 1) old) w i (length-take-le i ws (omega arith))
    ∙ sym (append_assoc (take i ws) (w ∷ []) (drop (i + 1) old))
    ∙ ap (λ t. t ++ drop (i + 1) old) (sym (take_more ws i 0 l))

pub loop-a-preserved : goal.loop-a-preserved
loop-a-preserved g c =
    let ws = c.args.words.now in
    let a = c.loop-a.a in
    let put = set-put ws (g.C.Core.words c.args.core.now) a (omega arith) (omega arith) in
    let word = c.in_ok-write.ensures.does.2 in (
      word ∙ ap (λ t. set t a (get_or ws a 0)) c.loop-a.invariant.0 ∙ put,
      c.write.ensures.keeps ∙ c.loop-a.invariant.1,
    )
