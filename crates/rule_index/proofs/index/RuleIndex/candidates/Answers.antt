use Rattle.std.proofs.lemmas.Result.{IfOk-weaker}
use Rattle.std.specs.Prelude.{false}
use Rattle.kb_term.specs.View.{tree_of}
use Rattle.kb_match.proofs.FittingLaws.{fits_from_match}
use Rattle.rule_index.proofs.Hits.{hits_meet}
use Rattle.rule_index.proofs.Meeting.{meets_from_fit, fit_from_meeting}
use Rattle.rule_index.proofs.index.RuleIndex.candidates.Goals as goal

pub returns-clause-keys : goal.returns-clause-keys
returns-clause-keys c =
    let t = tree_of c.args.t.now in
    IfOk-weaker c.found.result _ _ (λ keys found key.
    let meet = hits_meet false c.args.self.now.root t key in (
      λ h. let m = meet.0 ((found key).0 h) in (m.0, m.1, fit_from_meeting m.0 t m.2),
      λ (l, held, fit). (found key).1 (meet.1 (l, held, meets_from_fit l t fit)),
    )) c.found.ensures.keys

pub returns-clause-matches : goal.returns-clause-matches
returns-clause-matches c =
    let t = tree_of c.args.t.now in
    IfOk-weaker c.found.result _ _ (λ keys found key left held m. (found key).1 ((hits_meet false c.args.self.now.root t key).1 (left, held, meets_from_fit left t (fits_from_match left t m)))) c.found.ensures.keys
