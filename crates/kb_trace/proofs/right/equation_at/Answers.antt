use Rattle.std.proofs.Common.{◌-◌, ◌≡◌, ◌∙◌, sym, ap, arith, Bor}
use Rattle.std.specs.Prelude.{option_map, slice_get}
use Rattle.std.proofs.lemmas.Option.{slice_get-map}
use Rattle.kb_term.specs.Tree.{Tree}
use Rattle.kb_term.specs.View.{tree_of, equations_of_list}
use Rattle.kb_term.specs.declared.term.Term.{Term}
use Rattle.kb_trace.proofs.Cited.{item_before, looked_up, mapped_twice}
use Rattle.kb_trace.proofs.right.equation_at.Goals as goal

pub returns : goal.returns
returns c =
    let trees : Term × Term → Tree × Tree = λ e. (tree_of e.0, tree_of e.1) in
    let looked : option_map (λ (e : Bor (Term × Term)). e.now) c.get.result ≡ slice_get c.args.equations.now (c.args.number - 1) = looked_up c.args.equations.now (c.args.number - 1) c.get.result c.get.ensures.lookup.0 c.get.ensures.lookup.1 in
    mapped_twice trees (λ (e : Bor (Term × Term)). e.now) c.get.result ∙ ap (option_map trees) looked ∙ sym (slice_get-map trees c.args.equations.now (c.args.number - 1)) ∙ sym (item_before (equations_of_list c.args.equations.now) c.args.number (λ e. omega arith))
