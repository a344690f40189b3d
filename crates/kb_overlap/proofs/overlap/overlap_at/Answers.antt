use Rattle.std.proofs.Common.{ℕ, ◌≡◌, ◌∙◌, ap, sym, subst, Some, None, Ok, Err}
use Rattle.std.specs.Prelude.{option_map}
use Rattle.kb_term.specs.Position.{subtree_at}
use Rattle.kb_term.specs.Rule.{Rule}
use Rattle.kb_term.specs.Substitution.{instance}
use Rattle.kb_term.specs.Tree.{Tree}
use Rattle.kb_term.specs.View.{tree_of}
use Rattle.kb_unify.specs.Answer.{IsUnifierWith, IsUnifyAnswer}
use Rattle.kb_term.specs.Substitution.{substitution_of}
use Rattle.kb_overlap.specs.Found.{built_limit, IsPairAnswer}
use Rattle.kb_overlap.specs.Overlap.{IsRenamedApart, IsOverlapOrLimit}
use Rattle.kb_overlap.specs.View.{sides_of}
use Rattle.kb_overlap.proofs.Finding.{large_there, found_pair, answered_pair, answered_limit, unifier_small, below_subterm}
use Rattle.kb_overlap.proofs.overlap.overlap_at.Goals.{in-Ok-Some, in-Ok, in-Err-Large-critical_pair, in-Err-Large}
use Rattle.kb_overlap.proofs.overlap.overlap_at.Goals as goal

pub unify-requires-clause-a_variables : goal.unify-requires-clause-a_variables
unify-requires-clause-a_variables c =
    below_subterm c.args.outer.now 128 c.requires.outer_variables c.args.position.now (tree_of c.in-Some.redex.now) (ap (λ t. subtree_at t c.args.position.now) (sym c.left.ensures) ∙ sym c.subterm.ensures ∙ ap (option_map (λ u. tree_of u.now)) c.in-Some.is)

pub unify-requires-clause-b_variables : goal.unify-requires-clause-b_variables
unify-requires-clause-b_variables c = rw c.left-2.ensures c.requires.renamed_variables.0

pub critical_pair-requires-clause-small : goal.critical_pair-requires-clause-small
critical_pair-requires-clause-small c = unifier_small (substitution_of c.in-Ok-Some.m) (tree_of c.in-Some.redex.now) (tree_of c.left-2.result.now) (subst (λ o. IsUnifyAnswer (tree_of c.in-Some.redex.now) (tree_of c.left-2.result.now) (Ok o)) c.in-Ok-Some.field-0-is c.in-Ok-Some.ensures).unifier

pub returns : goal.returns
returns c = (
  c.in_ok-position.ensures.cases,
  λ inner apart. subst (λ p. IsOverlapOrLimit c.args.outer.now inner (record { position = p; sides = sides_of c.match-unify.sides })) (sym c.in_ok-position.ensures.cases) (here inner apart),
)
  where
    here : (inner : Rule) → IsRenamedApart c.args.outer.now inner c.args.renamed.now → IsOverlapOrLimit c.args.outer.now inner (record { position = c.args.position.now; sides = sides_of c.match-unify.sides })
    here inner apart =
        let outer = c.args.outer.now in
        let renamed = c.args.renamed.now in
        let p = c.args.position.now in
        let u = tree_of c.in-Some.redex.now in
        let at : subtree_at outer.left p ≡ Some u = ap (λ t. subtree_at t p) (sym c.left.ensures) ∙ sym c.subterm.ensures ∙ ap (option_map (λ u. tree_of u.now)) c.in-Some.is in
        elim c.match-unify.branch [
          | in-Ok-Some w ↦
              let m = substitution_of w.in-Ok-Some.m in
              let unifies : IsUnifierWith None m u renamed.left = subst (IsUnifierWith None m u) c.left-2.ensures (subst (λ o. IsUnifyAnswer u (tree_of c.left-2.result.now) (Ok o)) w.in-Ok-Some.field-0-is w.in-Ok-Some.ensures).unifier in
              elim w.match-critical_pair.branch [
                | in-Ok v ↦
                    found_pair outer renamed p u at c.requires.there m unifies (sides_of c.match-unify.sides)
                    (λ t made. ap sides_of (w.sides-is ∙ v.sides-is) ∙ answered_pair (built_limit outer m t) (instance m outer.right) t v.in-Ok.pair (v.in-Ok.ensures t made))
                    inner apart
                | in-Err-Large-critical_pair v ↦
                    let e = v.in-Err-Large-critical_pair in
                    found_pair outer renamed p u at c.requires.there m unifies (sides_of c.match-unify.sides)
                    (λ t made. ap sides_of (w.sides-is ∙ v.sides-is) ∙ answered_limit (built_limit outer m t) (instance m outer.right) t e.limit (subst (λ f. IsPairAnswer (built_limit outer m t) (instance m outer.right) t (Err f)) e.field-0-is (e.ensures t made)))
                    inner apart
              ]
          | in-Err-Large w ↦
              let limit = w.in-Err-Large.limit in
              let found : (m : ℕ → Tree) × IsUnifierWith (Some limit) m u (tree_of c.left-2.result.now) = subst (λ f. IsUnifyAnswer u (tree_of c.left-2.result.now) (Err f)) w.in-Err-Large.field-0-is w.in-Err-Large.ensures in
              let answer = subst (λ l. (m : ℕ → Tree) × IsUnifierWith (Some limit) m u l) c.left-2.ensures found in
              subst (λ sides. IsOverlapOrLimit outer inner (record { position = p; sides = sides })) (sym (ap sides_of (w.sides-is ∙ ap Err w.in-Err-Large.limit-is))) (large_there outer inner renamed apart p u at c.requires.there limit answer.0 answer.1)
        ]
