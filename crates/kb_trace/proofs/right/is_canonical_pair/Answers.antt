use Rattle.std.proofs.Common.{arith}
use Rattle.kb_term.specs.View.{tree_of}
use Rattle.kb_trace.proofs.Canonical.{within_canonical}
use Rattle.kb_trace.proofs.right.is_canonical_pair.Goals as goal

pub returns-then-is_some : goal.returns-then-is_some
returns-then-is_some c = (
  λ e. absurd (cc),
  λ h.
      let none = c.pair_limit.ensures.within.1 (within_canonical (tree_of c.args.s.now) (tree_of c.args.t.now) c.args.pair.now h c.requires) in
      absurd (grind (arith, none)),
)
