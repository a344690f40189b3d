use Rattle.std.proofs.Common.{◌≡◌, subst}
use Rattle.kb_term.specs.View.{tree_of}
use Rattle.kb_rewrite.specs.NormalForm.{Normalised, form}
use Rattle.kb_rewrite.proofs.Determined.{answers_once}
use Rattle.kb_decide.specs.Deciding.{IsReason}
use Rattle.kb_decide.proofs.Means.{form_normal, form_proved, one_form}
use Rattle.kb_goals.proofs.laws.simplified_terms_are_right.Goals as goal

pub returns-clause-normal : goal.returns-clause-normal
returns-clause-normal c = λ rules t n u h. form_normal rules t (tree_of u) n h

pub returns-clause-equal : goal.returns-clause-equal
returns-clause-equal c = λ rules t n u h. form_proved rules t (tree_of u) n h

pub returns-clause-one : goal.returns-clause-one
returns-clause-one c = λ signature rules s t m n u v d p h k. one_form signature rules s t (tree_of u) (tree_of v) m n d h k p

pub returns-clause-same : goal.returns-clause-same
returns-clause-same c = λ rules t m n u v held h k.
    let e = answers_once rules held t (form (tree_of u) m) (form (tree_of v) n) h k in
    let steps : m ≡ n = cc in
    let terms : tree_of u ≡ tree_of v = cc in
    (steps, terms)

pub returns-clause-known : goal.returns-clause-known
returns-clause-known c = λ rules t n u reason held h k.
    let e = answers_once rules held t k.0 (form (tree_of u) n) k.1 h in
    subst (λ (a : Normalised). IsReason a reason) e k.2
