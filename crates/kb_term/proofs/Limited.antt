-- The limit that a term passes, by its size and its depth.
use Rattle.std.proofs.Common.{◌≡◌, ◌<◌, ◌≤◌, refl, sym, subst, Some, None, Result, Ok, Err}
use Rattle.std.specs.Result.{IsErrAnd}
use Rattle.std.proofs.lemmas.Bool.{lt-ltb, le-ltb}
use Rattle.kb_term.specs.Tree.{Tree, tree_size, tree_depth}
use Rattle.kb_term.specs.Pair.{term_limit}
use Rattle.kb_term.specs.Made.{IsLimitedAnswer}
use Rattle.kb_term.specs.declared.term.Term.{Term}
use Rattle.kb_term.specs.declared.fault.TermFault.{TermFault}
use Rattle.kb_term.specs.declared.fault.TermFault.TheVariants.{Memory}
use Rattle.kb_term.specs.declared.limit.Limit.TheVariants.{Size, Depth}

pub limit-size : (t : Tree) → 512 < tree_size t → term_limit t ≡ Some Size
limit-size t h =
    let large = lt-ltb 512 (tree_size t) h in
    rw large refl

pub limit-depth : (t : Tree) → tree_size t ≤ 512 → 64 < tree_depth t → term_limit t ≡ Some Depth
limit-depth t h k =
    let small = le-ltb 512 (tree_size t) h in
    let deep = lt-ltb 64 (tree_depth t) k in
    rw (small, deep) refl

pub limit-none : (t : Tree) → tree_size t ≤ 512 → tree_depth t ≤ 64 → term_limit t ≡ None
limit-none t h k =
    let small = le-ltb 512 (tree_size t) h in
    let shallow = le-ltb 64 (tree_depth t) k in
    rw (small, shallow) refl

-- want of memory says nothing
pub limited-memory : (t : Tree) (r : Result Term TermFault) → IsErrAnd r (λ e. e ≡ Memory) → IsLimitedAnswer t r
limited-memory t (Ok u) h = absurd h
limited-memory t (Err e) h = subst (λ f. IsLimitedAnswer t (Err f)) (sym h) tt
