use Rattle.std.proofs.Common.{rules, get_or}
use Rattle.std.proofs.lemmas.List.Elements.{Contains-get_or}
use Rattle.kb_term.specs.Tree.{variables_of}
use Rattle.kb_term.specs.Pair.{IsWithin}
use Rattle.kb_term.specs.View.{tree_of}
use Rattle.work_crew_tests.proofs.searches.is_small.Goals as goal

pub returns-then-is_none : goal.returns-then-is_none
returns-then-is_none c h =
    let t = tree_of c.args.t.now in
    let within : IsWithin t = search rules in
    record {
      variables = λ k d l. c.has_variables_below.ensures.0 h (get_or (variables_of t) k d) (Contains-get_or (variables_of t) k d l);
      size = within.size;
      depth = within.depth;
    }
