use Rattle.std.proofs.Common.{sym, ap, ◌∙◌, subst}
use Rattle.kb_lemmas.proofs.Options.{some_is, none_some}
use Rattle.kb_node.specs.declared.node.NodeId.{NodeId}
use Rattle.mkb_model.specs.declared.proposed.Proposed.{Proposed}
use Rattle.mkb_agenda.proofs.NodeFrames.{told}
use Rattle.rules_in_use.proofs.Indexed.{on_ok, sides_kept_at}
use Rattle.rules_in_use.proofs.Following.{IsLeft, all_left, follows_none, follows_one, follows_two, pairs_kept, sides_follow}
use Rattle.rules_in_use.proofs.in_use.RulesInUse.follow.Goals as goal

pub returns-in_default : goal.returns-in_default
returns-in_default c = λ b k is. follows_none b c.args.state.now c.args.commit.now k c.args.self.now is (λ done. all_left b c.args.state.now c.args.commit.now.proposal.now c.in_default.not-Rewrite-1 c.in_default.not-One-1 c.in_default.not-Both-1)

pub returns-in-Over-default : goal.returns-in-Over-default
returns-in-Over-default c = λ b k is. follows_none b c.args.state.now c.args.commit.now k c.args.self.now is (λ done. let e = sym done ∙ c.in-Over-default.is-0 in absurd (cc))

pub returns-in-Done-One : goal.returns-in-Done-One
returns-in-Done-One c = on_ok c.look_at_node-in-Done-One.result (λ put b k is.
    follows_one b c.args.state.now c.args.commit.now k c.args.self.now is c.in-Done-One.node.0 c.look_at_node-in-Done-One.new.self
    (λ done m differs. subst {A = Proposed} (λ z. IsLeft b c.args.state.now z m) (sym c.in-Done-One.is-1) differs) (put (sides_follow b c.args.state.now c.args.commit.now k c.args.self.now is))) c.look_at_node-in-Done-One.ensures

pub returns-in-Done-Both : goal.returns-in-Done-Both
returns-in-Done-Both c = on_ok c.look_at_node-in-Done-Both.result (λ put b k is.
    follows_one b c.args.state.now c.args.commit.now k c.args.self.now is c.in-Done-Both.node.0 c.look_at_node-in-Done-Both.new.self
    (λ done m differs. subst {A = Proposed} (λ z. IsLeft b c.args.state.now z m) (sym c.in-Done-Both.is-1) differs) (put (sides_follow b c.args.state.now c.args.commit.now k c.args.self.now is))) c.look_at_node-in-Done-Both.ensures

pub returns-in-None : goal.returns-in-None
returns-in-None c = λ b k is.
    follows_one b c.args.state.now c.args.commit.now k c.args.self.now is c.in-Done-Rewrite.node.0 c.look_at_node.new.self
    (λ done m differs. subst {A = Proposed} (λ z. IsLeft b c.args.state.now z m) (sym c.in-Done-Rewrite.is-1) (λ q there.
    (differs, λ on. none_some (sym c.in-None.is ∙ told b c.args.state.now c.args.commit.now k done c.in-Done-Rewrite.node c.in-Done-Rewrite.side-1 c.in-Done-Rewrite.position-1 c.in-Done-Rewrite.rule-1 c.in-Done-Rewrite.kind-1 c.in-Done-Rewrite.result-1 c.in-Done-Rewrite.is-1 q m (pairs_kept b c.args.state.now c.args.commit.now k c.in-Done-Rewrite.node.0 q there) on))))
    (c.in_ok-look_at_node-in-Done-Rewrite.ensures (sides_follow b c.args.state.now c.args.commit.now k c.args.self.now is))

pub returns-in-Some : goal.returns-in-Some
returns-in-Some c = on_ok c.look_at_node-in-Some.result (λ put b k is.
    let sides = sides_follow b c.args.state.now c.args.commit.now k c.args.self.now is in
    let first = c.in_ok-look_at_node-in-Done-Rewrite.ensures sides in
    follows_two b c.args.state.now c.args.commit.now k c.args.self.now is c.in-Done-Rewrite.node.0 c.in-Some.target.0 c.look_at_node.new.self c.look_at_node-in-Some.new.self
    (λ done m differs other. subst {A = Proposed} (λ z. IsLeft b c.args.state.now z m) (sym c.in-Done-Rewrite.is-1) (λ q there.
    (differs, λ on. other (ap (λ (z : NodeId). z.0) (some_is (sym (told b c.args.state.now c.args.commit.now k done c.in-Done-Rewrite.node c.in-Done-Rewrite.side-1 c.in-Done-Rewrite.position-1 c.in-Done-Rewrite.rule-1 c.in-Done-Rewrite.kind-1 c.in-Done-Rewrite.result-1 c.in-Done-Rewrite.is-1 q m (pairs_kept b c.args.state.now c.args.commit.now k c.in-Done-Rewrite.node.0 q there) on) ∙ c.in-Some.is))))))
    first (put (sides_kept_at c.args.state.now c.in-Done-Rewrite.node.0 c.args.self.now c.look_at_node.new.self sides first))) c.look_at_node-in-Some.ensures
