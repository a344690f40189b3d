use Rattle.kb_label.proofs.Forked.{leaves-forked}
use Rattle.kb_label.proofs.laws.forked_names_are_apart.Goals as goal

pub returns-clause-in_order : goal.returns-clause-in_order
returns-clause-in_order c = λ l f. (leaves-forked l f).in_order

pub returns-clause-apart : goal.returns-clause-apart
returns-clause-apart c = λ l p q f h k b. (leaves-forked l f).apart p q h k b

pub returns-clause-short : goal.returns-clause-short
returns-clause-short c = λ l p f h. (leaves-forked l f).short p h
