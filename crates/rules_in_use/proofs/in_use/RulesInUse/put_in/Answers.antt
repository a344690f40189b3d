use Rattle.std.proofs.Common.{subst, refl, arith}
use Rattle.kb_term.specs.Rule.{Rule, rule_of}
use Rattle.rule_index.specs.declared.index.RuleIndex.{RuleIndex}
use Rattle.rule_index.specs.Index.{IsWith}
use Rattle.rules_in_use.proofs.Telling.{tells_still, tells_new}
use Rattle.rules_in_use.proofs.Indexed.{put_new, rule_named}
use Rattle.rules_in_use.proofs.in_use.RulesInUse.put_in.Goals as goal

pub invariant_of-self-in_err-add : goal.invariant_of-self-in_err-add
invariant_of-self-in_err-add c = tells_still c.self.inside.index c.add.new.self c.self.inside.told.items c.make_room.new.told.items c.self.invariant c.in_err-add.ensures.err c.make_room.ensures.same

pub invariant_of-self-2 : goal.invariant_of-self-2
invariant_of-self-2 c =
    let grown = tells_still c.self.inside.index c.self.inside.index c.self.inside.told.items c.make_room.new.told.items c.self.invariant refl c.make_room.ensures.same in
    tells_new c.self.inside.index c.add.new.self c.make_room.new.told.items c.args.key _ grown c.in_ok-make_room.ensures.room c.in_ok-add.ensures.ok

pub returns : goal.returns
returns c =
    let named = rule_named c.nodes.result.now c.args.state.now c.args.rule c.in_ok-pair.pair c.nodes.ensures c.in_ok-pair.ensures in
    put_new c.args.state.now c.args.rule (rule_of c.in_ok-pair.pair c.args.rule.dir) c.args.key c.args.self.now c.add.new.self (omega (arith, c.requires.there.1)) c.requires.key c.requires.used c.requires.new named
    (subst (λ (r : Rule). IsWith c.args.key r.left c.args.self.now c.add.new.self) c.in_ok-left.ensures.rule (subst (λ (i : RuleIndex). IsWith c.args.key c.in_ok-left.left.left i c.add.new.self) c.self.view_is c.in_ok-add.ensures.ok))
