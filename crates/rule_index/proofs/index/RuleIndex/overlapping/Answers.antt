use Rattle.std.proofs.lemmas.Result.{IfOk-weaker}
use Rattle.std.specs.Prelude.{true}
use Rattle.kb_term.specs.View.{tree_of}
use Rattle.rule_index.proofs.Hits.{hits_meet}
use Rattle.rule_index.proofs.Meeting.{meets_from_agreement, agreement_from_meeting, agree_from_instance}
use Rattle.rule_index.proofs.index.RuleIndex.overlapping.Goals as goal

pub returns-clause-keys : goal.returns-clause-keys
returns-clause-keys c =
    let t = tree_of c.args.t.now in
    IfOk-weaker c.found.result _ _ (λ keys found key.
    let meet = hits_meet true c.args.self.now.root t key in (
      λ h. let m = meet.0 ((found key).0 h) in (m.0, m.1, agreement_from_meeting m.0 t m.2),
      λ (l, held, agree). (found key).1 (meet.1 (l, held, meets_from_agreement l t agree)),
    )) c.found.ensures.keys

pub returns-clause-unifies : goal.returns-clause-unifies
returns-clause-unifies c =
    let t = tree_of c.args.t.now in
    IfOk-weaker c.found.result _ _ (λ keys found key left held common. (found key).1 ((hits_meet true c.args.self.now.root t key).1 (left, held, meets_from_agreement left t (agree_from_instance left t common)))) c.found.ensures.keys
