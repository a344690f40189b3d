use Rattle.std.proofs.Common.{◌≡◌, ap, ap₂, sym, subst, ◌∙◌, arith}
use Rattle.std.proofs.lemmas.List.{take_all}
use Rattle.kb_term.specs.Tree.{Tree}
use Rattle.kb_term.specs.Pair.{Pair, place_in, variables_of_pair, numbered}
use Rattle.kb_term.specs.Rule.{IsRuleBelow, rule_between}
use Rattle.kb_term.specs.Substitution.{rename}
use Rattle.kb_term.specs.View.{tree_of, pair_of}
use Rattle.kb_term.proofs.RuleBelow.{numbered-below}
use Rattle.kb_term.proofs.number.numbered_pair.Goals as goal

made : (c : goal.In_ok-numbered-2) → pair_of c.in_ok-numbered.field-0 c.in_ok-numbered-2.field-0 ≡ numbered (tree_of c.args.a.now) (tree_of c.args.b.now)
made c =
    let a = tree_of c.args.a.now in
    let b = tree_of c.args.b.now in
    let all : c.of-names.result ≡ variables_of_pair a b = c.of-names.ensures ∙ take_all 65 (variables_of_pair a b) (omega (arith, c.requires)) in
    ap₂ (λ (s t : Tree). record { first = s; second = t }) (c.in_ok-numbered.ensures ∙ ap (λ names. rename (place_in names) a) all) (c.in_ok-numbered-2.ensures ∙ ap (λ names. rename (place_in names) b) all)

pub returns : goal.returns
returns c = record {
  pair = made c;
  below = subst (λ (e : Pair). IsRuleBelow 64 (rule_between e.first e.second)) (sym (made c)) (numbered-below (tree_of c.args.a.now) (tree_of c.args.b.now) 64 c.requires);
}
