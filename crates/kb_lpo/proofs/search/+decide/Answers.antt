use Rattle.std.proofs.Common.{arith, sym, ◌∙◌, ⊎_elim}
use Rattle.std.proofs.lemmas.Bool.{false≢true, cases_lt}
use Rattle.kb_term.specs.Pair.{place_in}
use Rattle.kb_lpo.proofs.First.{orients_rest}
use Rattle.kb_lpo.proofs.search.+decide.Goals as goal

pub decide-returns-else-is_some : goal.decide-returns-else-is_some
decide-returns-else-is_some t c = λ prec fit o.
    ⊎_elim
    (λ up. absurd (false≢true (sym c.if-is_some.false ∙ c.is_some.ensures ∙ c.decide_with-found.ensures prec fit (omega (arith, up)) (orients_rest prec c.args.rules.now c.in-Some.open.place _ o))))
    (λ down. c.decide_with.ensures prec fit down (orients_rest prec c.args.rules.now c.in-Some.open.place _ o))
    (cases_lt (place_in prec c.in-Some.open.first.0) (place_in prec c.in-Some.open.second.0))
