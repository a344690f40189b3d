use Rattle.std.proofs.Common.{ℕ, ◌+◌, ◌*◌, ◌≡◌, true, sym, subst, length, ◌<◌, arith}
use Rattle.rule_index.specs.declared.index.RuleIndex.{RuleIndex}
use Rattle.rule_index.specs.Index.{IsThere}
use Rattle.rules_in_use.proofs.Telling.{differs, told_inside}
use Rattle.rules_in_use.proofs.in_use.RulesInUse.look_at.Goals as goal

pub index_mut-requires : goal.index_mut-requires
index_mut-requires c =
    let key : ℕ = 2 * c.args.rule.node + c.args.rule.dir in
    let there : c.has.result ≡ true = differs c.is_in_use-is_used.result c.has.result c.if-is_used-has.false c.if-is_used.false in
    let inside : key < length c.self.inside.told.items = told_inside c.self.inside.told.items key ((c.self.invariant key).0 (subst (λ (i : RuleIndex). IsThere i key) (sym c.self.view_is) (c.has.ensures.0 there))) in
    omega (arith, inside, c.self.inside.told.ok.1)
