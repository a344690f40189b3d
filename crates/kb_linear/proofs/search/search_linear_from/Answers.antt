use Rattle.std.proofs.Common.{arith, ap, ◌∙◌, length, subst, sym}
use Rattle.kb_linear.specs.Numbers.{numbers_of, uniform, IsWithin, NoneLess}
use Rattle.kb_linear.proofs.Ready.{start_length, start_tried, start_first}
use Rattle.kb_linear.proofs.search.search_linear_from.Goals as goal

pub top_constant-requires : goal.top_constant-requires
top_constant-requires c =
    let e = ap length c.in_ok-first.ensures ∙ ap (λ i. length (numbers_of i)) c.rows.ensures.rows ∙ start_length c.args.sig.now c.args.rules.now c.args.start c.requires.start in
    omega arith

pub search_to-requires-clause-start_tried : goal.search_to-requires-clause-start_tried
search_to-requires-clause-start_tried c = λ e.
    let n = c.in_ok-first.ensures ∙ ap numbers_of c.rows.ensures.rows in
    subst (IsWithin (numbers_of (uniform c.args.sig.now 0 1)) (numbers_of (uniform c.args.sig.now c.in-Some.top 2))) (sym n) (start_tried c.args.sig.now c.args.rules.now c.args.start c.in-Some.top c.in-Some.ensures c.requires.start).within

pub search_to-requires-clause-start_first : goal.search_to-requires-clause-start_first
search_to-requires-clause-start_first c = λ e.
    let n = c.in_ok-first.ensures ∙ ap numbers_of c.rows.ensures.rows in
    subst (NoneLess c.args.rules.now c.args.sig.now c.in-Some.top) (sym n) (start_first c.args.sig.now c.args.rules.now c.args.start c.in-Some.top c.in-Some.ensures c.requires.start)
