use Rattle.std.proofs.Common.{ap, sym, subst, not, arith, ◌∙◌}
use Rattle.kb_term.specs.Pair.{Pair}
use Rattle.kb_term.specs.Tree.{Tree}
use Rattle.kb_rewrite.specs.NormalForm.{HasNoRedex, IsFound}
use Rattle.kb_jobs.specs.Reducing.{is_any}
use Rattle.kb_jobs.proofs.Reduced.{first_side, second_side}
use Rattle.kb_jobs.proofs.reducing.left_on.Goals as goal

pub returns-then-w-eq0 : goal.returns-then-w-eq0
returns-then-w-eq0 c i e =
    let s = c.args.s.now in
    let read = c.first.ensures.side ∙ ap (λ (q : Pair). q.first) c.as_pair-pair.ensures in
    let none = subst {A = Tree} (HasNoRedex s.rules.rules (not (is_any s 0))) (sym read) c.requires.first in
    subst {A = Tree} (λ u. IsFound u c.args.rule.now c.left_for.result) (read ∙ first_side s.pair c.args.w (omega (arith, c.if-w-eq0.true))) (c.left_for.ensures s.rules.rules i e none)

pub returns-else-w-eq0 : goal.returns-else-w-eq0
returns-else-w-eq0 c i e =
    let s = c.args.s.now in
    let read = c.second.ensures.side ∙ ap (λ (q : Pair). q.second) c.as_pair-pair.ensures in
    let none = subst {A = Tree} (HasNoRedex s.rules.rules (not (is_any s 1))) (sym read) c.requires.second in
    subst {A = Tree} (λ u. IsFound u c.args.rule.now c.left_for-else-w-eq0.result) (read ∙ second_side s.pair c.args.w (omega (arith, c.if-w-eq0.false))) (c.left_for-else-w-eq0.ensures s.rules.rules i e none)
