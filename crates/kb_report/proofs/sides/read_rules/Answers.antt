use Rattle.std.proofs.Common.{arith, ◌≡◌, ◌+◌, ◌++◌, ◌∷◌, [], List, ℕ, length, ap, sym, ◌∙◌, subst}
use Rattle.std.proofs.lemmas.List.{length_push}
use Rattle.kb_term.specs.Rule.{Rule}
use Rattle.kb_term.specs.Tree.{variable}
use Rattle.kb_checker.specs.Answers.{IsRuleForm}
use Rattle.kb_text.specs.Terms.{names_of}
use Rattle.kb_report.specs.SystemSections.{rule_body}
use Rattle.kb_report.proofs.SectionLaws.{AreReadItems, no_items, item_pushed, items_bad, items_whole}
use Rattle.kb_report.proofs.SidesRead.{some_rule}
use Rattle.kb_report.proofs.sides.read_rules.Goals as goal

pub loop-k-init : goal.loop-k-init
loop-k-init c =
    let sig = c.args.sig.now in
    let text = c.args.text.now in
    record {
      read = subst (λ (rs : List (Rule × ℕ)). AreReadItems (IsRuleForm sig) (λ k. rule_body (names_of sig)) text rs 0) (sym c.new-rules.ensures.items) (no_items (IsRuleForm sig) (λ k. rule_body (names_of sig)) text);
      count = ap (λ (rs : List (Rule × ℕ)). length rs) c.new-rules.ensures.items;
    }

pub split_at-requires : goal.split_at-requires
split_at-requires c = c.loop-k.invariant.read.within

pub loop-k-preserved : goal.loop-k-preserved
loop-k-preserved c =
    let sig = c.args.sig.now in
    let items = c.loop-k.rules.items in
    let news = c.push.new.self.items in
    let x = c.in-Some.rule in
    let more : news ≡ items ++ x ∷ [] = c.in_ok-push.ensures.items in
    let long : length news ≡ length items + 1 = ap length more ∙ length_push items x in
    let count = c.loop-k.invariant.count in
    record {
      read = item_pushed (IsRuleForm sig) (λ k. rule_body (names_of sig)) c.args.text.now c.split_at.result.1.now items news x c.loop-k.at c.in-Some.size (length items + 1) c.loop-k.invariant.read c.split_at.ensures.back (λ i. length items + 1) (rw c.in-Some.is at c.in_ok-rule.ensures.read) (rw c.in-Some.is at c.in_ok-rule.ensures.size) more;
      count = omega arith;
    }

pub returns-in_default-clause-fault : goal.returns-in_default-clause-fault
returns-in_default-clause-fault c =
    let sig = c.args.sig.now in
    let items = c.loop-k.rules.items in
    let count = c.loop-k.invariant.count in
    items_bad (IsRuleForm sig) (λ k. rule_body (names_of sig)) c.args.text.now c.split_at.result.1.now items c.loop-k.at c.args.count c.args.first (c.args.first + c.loop-k.k) (record { left = variable 0; right = variable 0 }, 1) (some_rule sig) c.loop-k.invariant.read c.split_at.ensures.back (omega arith) (omega arith) (rw c.in_default.is at c.in_ok-rule.ensures.read)

pub returns-clause-read : goal.returns-clause-read
returns-clause-read c =
    let sig = c.args.sig.now in
    let count = c.loop-k.invariant.count in
    items_whole (IsRuleForm sig) (λ k. rule_body (names_of sig)) c.args.text.now c.loop-k.rules.items c.loop-k.at c.args.count c.loop-k.invariant.read (omega arith)
