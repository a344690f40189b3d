use Rattle.std.proofs.Common.{sym, ◌∙◌, ◌++◌, ◌∷◌}
use Rattle.std.proofs.lemmas.Bool.{false≢true}
use Rattle.kb_lpo.specs.Search.{numbers}
use Rattle.kb_lpo.proofs.First.{above_rest}
use Rattle.kb_lpo.proofs.search.place_possible.Goals as goal

pub returns-then-not-put_next-clause-sound : goal.returns-then-not-put_next-clause-sound
returns-then-not-put_next-clause-sound c = λ rest n fit o. absurd (false≢true (sym c.if-not-put_next.true ∙ (c.put_next.ensures (numbers c.args.symbols.now ++ c.args.f.0 ∷ rest) fit (λ g m d. above_rest (numbers c.args.symbols.now) rest c.args.f.0 g n m d)).0))

pub returns-clause-sound : goal.returns-clause-sound
returns-clause-sound c = λ rest n fit o.
    let p = numbers c.args.symbols.now ++ c.args.f.0 ∷ rest in
    let more = (c.put_next.ensures p fit (λ g m d. above_rest (numbers c.args.symbols.now) rest c.args.f.0 g n m d)).1 in
    (c.are_possible.ensures p more o, more)
