use Rattle.std.proofs.Common.{ap, sym, subst, not, ◌∙◌}
use Rattle.std.proofs.lemmas.Bool.{false≢true}
use Rattle.kb_term.specs.Substitution.{IsVariant}
use Rattle.kb_term.specs.View.{tree_of}
use Rattle.kb_jobs.proofs.Reduced.{none_left}
use Rattle.kb_jobs.proofs.reducing.left_for.Goals as goal
use Rattle.kb_jobs.proofs.reducing.left_for.Goals.{else-not-is_any-via-then-not-is_any+else-is_variant, else-not-is_any-via-else-not-is_any}

pub returns-else-not-is_any : goal.returns-else-not-is_any
returns-else-not-is_any c rules i e h =
    elim c.else-not-is_any.branch [
      | else-not-is_any-via-then-not-is_any+else-is_variant w ↦ none_left rules i c.args.rule.now (not c.args.is_any) (tree_of c.args.t.now) e h (λ _ v. false≢true (sym w.if-is_variant.false ∙ w.is_variant.ensures.1 (subst (IsVariant (tree_of c.args.t.now)) (sym w.left.ensures) v)))
      | else-not-is_any-via-else-not-is_any w ↦ none_left rules i c.args.rule.now (not c.args.is_any) (tree_of c.args.t.now) e h (λ t _. false≢true (sym (ap not w.if-not-is_any.false) ∙ t))
    ]
