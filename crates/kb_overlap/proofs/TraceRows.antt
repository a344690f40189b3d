-- Right traces on small problems.
use Rattle.std.specs.Prelude.{List, [], ◌∷◌}
use Rattle.std.proofs.Common.{refl, arith}
use Rattle.kb_term.specs.Tree.{variable}
use Rattle.kb_term.specs.Rule.{IsRule}
use Rattle.kb_overlap.specs.Trace.{TraceStep, IsRightTrace, IsTracedBy}
use Rattle.kb_term.specs.declared.origin.Origin.TheVariants.{Input, Rewrite, Overlap}
use Rattle.kb_term.proofs.PairRows.{one, none}
use Rattle.kb_term.proofs.Trees.{apply≢variable, each-none}
use Rattle.kb_overlap.proofs.OverlapRows.{ff-a, m, ff-apart, m-most-general}

-- from f(f(x)) == a: the equation, and its overlap with itself at 1
abbrev pub ff-a-trace : List TraceStep
ff-a-trace =
    record { origin = Input 1; pair = record { first = one 0 (one 0 (variable 0)); second = none 1 } }
    ∷ record {
      origin = Overlap (record { node = 1; dir = 0 }) (record { node = 1; dir = 0 }) (1 ∷ []);
      pair = record { first = one 0 (none 1); second = none 1 };
    }
    ∷ []

ff-a-is-rule : IsRule ff-a
ff-a-is-rule = record { no_variable = λ n. apply≢variable; holds_variables = each-none _ }

pub ff-a-right : IsRightTrace ((one 0 (one 0 (variable 4)), none 1) ∷ []) ff-a-trace
ff-a-right = (
  (tt, ((one 0 (one 0 (variable 4)), none 1), refl, refl)),
  (
    (
      (omega arith, omega arith),
      (
        record { first = one 0 (one 0 (variable 0)); second = none 1 },
        record { first = one 0 (one 0 (variable 0)); second = none 1 },
        refl,
        refl,
        record {
          outer_rule = ff-a-is-rule;
          inner_rule = ff-a-is-rule;
          s = none 1;
          t = one 0 (none 1);
          overlap =
              record {
                renamed = record { left = one 0 (one 0 (variable 64)); right = none 1 };
                m = m;
                s = none 1;
                t = one 0 (none 1);
                renamed_apart = ff-apart;
                overlaps =
                    record {
                      subterm = one 0 (variable 0);
                      there = refl;
                      no_variable = (1, omega arith, refl);
                      unifier = record { unifies = refl; most_general = m-most-general };
                    };
                pair = record { by_outer = refl; by_inner = refl };
                sides = refl;
              };
          canonical = refl;
        },
      ),
    ),
    tt,
  ),
)

-- step 2 traces f(a) -> a
pub ff-a-traced : IsTracedBy ff-a-trace 2 (record { left = one 0 (none 1); right = none 1 })
ff-a-traced = refl

-- from f(a) == b and f(a) == c: side 0 of the second, rewritten at the root by the first in direction 0, gives b = c
abbrev pub fa-trace : List TraceStep
fa-trace =
    record { origin = Input 1; pair = record { first = one 0 (none 1); second = none 2 } }
    ∷ record { origin = Input 2; pair = record { first = one 0 (none 1); second = none 3 } }
    ∷ record { origin = Rewrite 2 0 [] (record { node = 1; dir = 0 }); pair = record { first = none 2; second = none 3 } }
    ∷ []

pub fa-right : IsRightTrace ((one 0 (none 1), none 2) ∷ (one 0 (none 1), none 3) ∷ []) fa-trace
fa-right = (
  (tt, ((one 0 (none 1), none 2), refl, refl)),
  (
    (tt, ((one 0 (none 1), none 3), refl, refl)),
    (
      (
        (omega arith, omega arith),
        (
          record { first = one 0 (none 1); second = none 3 },
          record { first = one 0 (none 1); second = none 2 },
          refl,
          refl,
          record {
            is_rule = record { no_variable = λ n. apply≢variable; holds_variables = each-none _ };
            result = none 2;
            rewrites = (variable, record { redex = refl; result = refl });
            canonical = refl;
          },
        ),
      ),
      tt,
    ),
  ),
)
