use Rattle.std.proofs.Common.{◌≡◌, inl, inr, Bool, ℕ, refl, ◌&&◌, ap, ap₂, sym, ◌∙◌}
use Rattle.kb_label.specs.Names.{is_empty, meet}
use Rattle.kb_node.specs.declared.node.LabelKind.{LabelKind}
use Rattle.kb_node.specs.declared.node.LabelKind.TheVariants.{E}
use Rattle.kb_term.specs.declared.origin.Found.{Found}
use Rattle.kb_term.specs.declared.origin.Found.TheVariants.{No, Variant, Strict}
use Rattle.kb_term.specs.declared.origin.RuleRef.{RuleRef}
use Rattle.mkb_model.specs.Plain.{Plain, label, other, rule_kind}
use Rattle.mkb_model.specs.Effects.{if_strict, rewrite_label}
use Rattle.mkb_rules.proofs.Sets.{meet_none-empty, nobody_rewrites}
use Rattle.mkb_rules.proofs.state.State.has_no_rewriter.Goals as goal

-- whether nobody has the rule and is in the label of this kind
abbrev apart : Plain → RuleRef → ℕ → LabelKind → Bool
apart b a n k = is_empty (meet (label b a.node (rule_kind a.dir)) (label b n k))

told : (b : Plain) (n w : ℕ) (a : RuleRef) (found : Found) {x y : Bool} → apart b a n E ≡ x → apart b a n (rule_kind (other w)) ≡ y
    → is_empty (rewrite_label b n w a found) ≡ (x && (y && is_empty (meet (label b a.node (rule_kind a.dir)) (if_strict found (label b n (rule_kind w))))))
told b n w a found d e = nobody_rewrites b n w a found ∙ ap₂ (λ x y. x && (y && is_empty (meet (label b a.node (rule_kind a.dir)) (if_strict found (label b n (rule_kind w)))))) d e

pub returns-then-not-is_apart : goal.returns-then-not-is_apart
returns-then-not-is_apart c =
    sym (told c.args.self.now c.args.n.0 c.args.side c.args.rule c.args.found (sym c.is_apart.ensures ∙ c.if-not-is_apart.true) refl)

pub returns-then-not-is_apart-2 : goal.returns-then-not-is_apart-2
returns-then-not-is_apart-2 c =
    let b = c.args.self.now in
    let kind = c.rule_kind.ensures ∙ ap rule_kind c.other.ensures in
    sym (told b c.args.n.0 c.args.side c.args.rule c.args.found (sym c.is_apart.ensures ∙ c.if-not-is_apart.false) (ap (apart b c.args.rule c.args.n.0) (sym kind) ∙ sym c.is_apart-2.ensures ∙ c.if-not-is_apart-2.true))

pub returns-in-Strict : goal.returns-in-Strict
returns-in-Strict c =
    let b = c.args.self.now in
    let kind = c.rule_kind.ensures ∙ ap rule_kind c.other.ensures in
    c.is_apart-in-Strict.ensures
    ∙ ap (apart b c.args.rule c.args.n.0) c.rule_kind-in-Strict.ensures
    ∙ sym (ap (λ found. is_empty (rewrite_label b c.args.n.0 c.args.side c.args.rule found)) c.in-Strict.is ∙ told b c.args.n.0 c.args.side c.args.rule Strict (sym c.is_apart.ensures ∙ c.if-not-is_apart.false) (ap (apart b c.args.rule c.args.n.0) (sym kind) ∙ sym c.is_apart-2.ensures ∙ c.if-not-is_apart-2.false))

pub returns-in-No : goal.returns-in-No
returns-in-No c =
    let b = c.args.self.now in
    let a = c.args.rule in
    let n = c.args.n.0 in
    let kind = c.rule_kind.ensures ∙ ap rule_kind c.other.ensures in
    let first = sym c.is_apart.ensures ∙ c.if-not-is_apart.false in
    let second = ap (apart b a n) (sym kind) ∙ sym c.is_apart-2.ensures ∙ c.if-not-is_apart-2.false in
    let nobody = meet_none-empty (label b a.node (rule_kind a.dir)) in
    elim c.in-No.is [
      | inl e ↦ sym (ap (λ found. is_empty (rewrite_label b n c.args.side a found)) e ∙ told b n c.args.side a No first second ∙ nobody)
      | inr e ↦ sym (ap (λ found. is_empty (rewrite_label b n c.args.side a found)) e ∙ told b n c.args.side a Variant first second ∙ nobody)
    ]
