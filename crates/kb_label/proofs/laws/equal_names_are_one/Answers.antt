use Rattle.kb_label.proofs.Members.{name_eq-refl, name_eq-eq}
use Rattle.kb_label.proofs.laws.equal_names_are_one.Goals as goal

pub returns : goal.returns
returns c p q = (name_eq-eq p q, λ e. rw (← e) (name_eq-refl p))
