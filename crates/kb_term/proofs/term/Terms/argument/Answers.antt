use Rattle.std.proofs.Common.{◌<◌, ◌∙◌, sym, ap, arith, length}
use Rattle.std.specs.Prelude.{map}
use Rattle.kb_term.specs.Position.{argument}
use Rattle.kb_term.specs.Tree.{trees_of}
use Rattle.kb_term.specs.View.{tree_of}
use Rattle.kb_term.proofs.Arguments.{argument-number, argument-number_none, argument-zero, arguments-length}
use Rattle.kb_term.proofs.term.Terms.argument.Goals as goal
use Rattle.kb_term.proofs.term.Terms.argument.Goals.{then-number-eq0-via-then-number-eq0, then-number-eq0-via-else-number-eq0+then-number-len}

pub returns : goal.returns
returns c =
    let items = c.self.inside.items.items in
    let found = argument-number items c.args.number c.index.result.now c.if-number-eq0.false (grind arith) c.index.ensures in
    sym (ap (λ us. argument (trees_of us) c.args.number) (sym c.self.view_is) ∙ found)

pub returns-then-number-eq0 : goal.returns-then-number-eq0
returns-then-number-eq0 c =
    elim c.then-number-eq0.branch [
      | then-number-eq0-via-then-number-eq0 w ↦
          sym (ap (argument (trees_of c.args.self.now)) w.if-number-eq0.true ∙ argument-zero (trees_of c.args.self.now))
      | then-number-eq0-via-else-number-eq0+then-number-len w ↦
          let items = c.self.inside.items.items in
          let long : length items < c.args.number = grind arith in
          sym (ap (λ us. argument (trees_of us) c.args.number) (sym c.self.view_is) ∙ argument-number_none (map tree_of items) c.args.number (omega (arith, long, arguments-length items)))
    ]
