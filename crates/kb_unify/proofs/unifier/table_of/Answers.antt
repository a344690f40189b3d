use Rattle.std.proofs.Common.{arith, ◌-◌, ◌+◌, ◌∙◌, ap₂, subst, ◌++◌, take, replicate}
use Rattle.kb_unify.specs.Table.{IsFlattened}
use Rattle.kb_unify.specs.declared.table.Slot.TheVariants.{Free}
use Rattle.kb_unify.proofs.Unifying.{start-table, started}
use Rattle.kb_term.specs.View.{tree_of}
use Rattle.kb_unify.proofs.unifier.table_of.Goals as goal

pub flatten-requires-clause-table : goal.flatten-requires-clause-table
flatten-requires-clause-table c = start-table c.args.variables c.resize.new.self.items (c.in_ok-resize.ensures.items ∙ ap₂ (λ xs n. take (c.args.variables + 2) xs ++ replicate (c.args.variables + 2 - n) Free) c.in_ok-slots.ensures.items c.in_ok-slots.ensures.len ∙ started (c.args.variables + 2))

pub returns : goal.returns
returns c =
    let start = c.in_ok-resize.ensures.items ∙ ap₂ (λ xs n. take (c.args.variables + 2) xs ++ replicate (c.args.variables + 2 - n) Free) c.in_ok-slots.ensures.items c.in_ok-slots.ensures.len ∙ started (c.args.variables + 2) in
    (c.flatten.new.slots.items, subst (λ s. IsFlattened s c.flatten.new.slots.items c.args.variables (tree_of c.args.a.now)) start c.in_ok-flatten.ensures, c.in_ok-flatten-2.ensures)

pub flatten-requires-2-clause-variables : goal.flatten-requires-2-clause-variables
flatten-requires-2-clause-variables c n h = let p = c.requires.b_variables n h in omega (arith, p)
