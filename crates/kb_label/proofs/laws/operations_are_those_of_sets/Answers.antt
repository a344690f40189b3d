use Rattle.kb_label.proofs.Members.{has-add, has-join, has-meet, has-minus}
use Rattle.kb_label.proofs.Sets.{has-relabel, relabel-absent}
use Rattle.kb_label.proofs.laws.operations_are_those_of_sets.Goals as goal

pub returns-clause-add : goal.returns-clause-add
returns-clause-add c = λ l p q. has-add p l q

pub returns-clause-join : goal.returns-clause-join
returns-clause-join c = has-join

pub returns-clause-meet : goal.returns-clause-meet
returns-clause-meet c = has-meet

pub returns-clause-minus : goal.returns-clause-minus
returns-clause-minus c = has-minus

pub returns-clause-relabel : goal.returns-clause-relabel
returns-clause-relabel c = λ l p q h. has-relabel p q l h

pub returns-clause-relabel_absent : goal.returns-clause-relabel_absent
returns-clause-relabel_absent c = λ l p h. relabel-absent p l h
