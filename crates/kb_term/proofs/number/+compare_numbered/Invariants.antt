use Rattle.std.proofs.Common.{◌≡◌, drop}
use Rattle.kb_term.specs.Tree.{tree_cmp}
use Rattle.kb_term.specs.View.{tree_of}
use Rattle.kb_term.specs.Pair.{place_in}
use Rattle.kb_term.specs.Substitution.{rename}
use Rattle.kb_term.specs.declared.term.Term.{Term}
use Rattle.kb_term.proofs.Compared.{terms_cmp}
use Rattle.kb_term.proofs.number.+compare_numbered.Given as goal

-- the arguments so far are equal, so the rest decide
abbrev pub invariant-loop-i : goal.invariant-loop-i
invariant-loop-i l = tree_cmp (rename (place_in l.forth) (tree_of l.s)) (rename (place_in l.back) (tree_of l.t)) ≡ terms_cmp (λ (u : Term). rename (place_in l.forth) (tree_of u)) (λ (u : Term). rename (place_in l.back) (tree_of u)) (drop l.i l.ts-inside.items.items) (drop l.i l.us-inside.items.items)
