use Rattle.std.proofs.Common.{◌∙◌, ◌||◌, ap, sym, List, [], ◌∷◌}
use Rattle.std.specs.List.{flat_map}
use Rattle.kb_term.specs.declared.origin.RuleRef.{RuleRef}
use Rattle.mkb_model.specs.Proposals.{named_rules}
use Rattle.mkb_rules.specs.Roles.{has_rule}
use Rattle.mkb_rules.specs.declared.roles.Roles.{Roles}
use Rattle.mkb_board.specs.Snapshots.{unknown_on, with_names}
use Rattle.mkb_board.proofs.Open.{taken_open}
use Rattle.mkb_board.proofs.snapshots.reducing.reduce_snapshot.Goals as goal

pub returns-clause-taken : goal.returns-clause-taken
returns-clause-taken c =
    let b = c.args.state.now in
    let n = c.args.node.0 in
    let us = c.in_ok-unknown.unknown.items in
    let names = c.as_slice.ensures.value in
    taken_open b
    (record {
      process = c.args.process;
      node = c.args.node;
      pair = c.in_ok-pair.pair;
      rules = c.in_ok-rules.rules;
      any_first = c.is_any.result;
      any_second = c.is_any-2.result;
      unknown = c.in_ok-unknown.unknown;
    })
    c.requires.facts c.in_ok-pair.ensures.pair (c.in_ok-rules.ensures.rules ∙ ap (named_rules b) c.in_ok-names.ensures.names) (c.is_any.ensures ∙ ap (λ (r : Roles). r.equation || has_rule r 1) c.roles_by-roles.ensures.roles) (c.is_any-2.ensures ∙ ap (λ (r : Roles). r.equation || has_rule r 0) c.roles_by-roles.ensures.roles)
    (ap (λ (ns : List RuleRef). with_names ns us) (c.in_ok-rules.ensures.names ∙ sym names) ∙ c.in_ok-unknown.ensures.names ∙ ap (λ (ns : List RuleRef). flat_map (unknown_on b n ns) (0 ∷ 1 ∷ [])) (names ∙ c.in_ok-names.ensures.names))
