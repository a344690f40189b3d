use Rattle.std.proofs.Common.{◌≡◌, ◌⊎◌, inl, inr, ◌∙◌, List, [], ◌∷◌, ◌++◌, length, sym, ap, subst, arith}
use Rattle.std.specs.Prelude.{All}
use Rattle.std.proofs.lemmas.List.{map-append, length-append, length-map}
use Rattle.kb_term.specs.Pair.{Pair}
use Rattle.kb_term.specs.declared.origin.Origin.{Origin}
use Rattle.kb_label.specs.Names.{Name}
use Rattle.kb_node.specs.declared.node.LabelKind.TheVariants.{R0, R1, E, C0, C1}
use Rattle.kb_node.specs.Labelled.{Node, AddsNode}
use Rattle.mkb_model.specs.Plain.{PlainNode}
use Rattle.mkb_rules.specs.Parts.{plain_node, plain_nodes}
use Rattle.mkb_rules.specs.Accounts.{IsAccountOf, IsBare}
use Rattle.mkb_rules.specs.Constrained.{is_free_node, AreConstraintsMarked}
use Rattle.mkb_rules.specs.Sizes.{is_dead_node, AreMarked}
use Rattle.mkb_rules.proofs.Finding.{found-added}
use Rattle.mkb_rules.proofs.Paying.{bare_dead, bare_free, marked_new}
use Rattle.mkb_rules.proofs.tracked.Tracked.find_or_add.Goals as goal

abbrev Adds : List (Node (List Name)) → List (Node (List Name)) → Pair → Origin → Type 0
Adds old new q o = AddsNode {L = List Name} {K = List Name} (λ log l. l) old new q o

bare_node : (old new : List (Node (List Name))) (q : Pair) (o : Origin) (a : Adds old new q o) → IsBare (plain_node a.node)
bare_node old new q o a = record { rule0 = a.unlabelled R0 []; rule1 = a.unlabelled R1 []; equation = a.unlabelled E []; constraint0 = a.unlabelled C0 []; constraint1 = a.unlabelled C1 [] }

longer : (old new : List (Node (List Name))) (q : Pair) (o : Origin) (a : Adds old new q o) → plain_nodes new ≡ plain_nodes old ++ plain_node a.node ∷ []
longer old new q o a = ap plain_nodes a.appended ∙ map-append plain_node old (a.node ∷ [])

pub invariant_of-self-then-count-len : goal.invariant_of-self-then-count-len
invariant_of-self-then-count-len c = go (found-added old new c.args.pair c.args.origin c.find_or_add.result c.find_or_add.ensures.present c.find_or_add.ensures.added c.find_or_add.ensures.full c.find_or_add.ensures.err)
  where
    old : List (Node (List Name))
    old = c.self.inside.table

    new : List (Node (List Name))
    new = c.find_or_add.new.self

    go : (new ≡ old) ⊎ Adds old new c.args.pair c.args.origin → AreMarked (plain_nodes new) c.push.new.self × All (IsAccountOf (plain_nodes new)) c.follow_new.new.accounts.items × AreConstraintsMarked (plain_nodes new) c.push-then-count-len.new.self
    go (inl same) = absurd (omega (arith, c.if-count-len.true, c.len.ensures.count, c.len-count.ensures.count, ap length same))
    go (inr a) =
        let bare = bare_node old new c.args.pair c.args.origin a in
        let nodes = longer old new c.args.pair c.args.origin a in (
          subst {A = List PlainNode} (λ xs. AreMarked xs c.push.new.self) (sym nodes) (marked_new is_dead_node (plain_nodes old) (plain_node a.node) (bare_dead (plain_nodes old) (plain_node a.node) bare) c.self.inside.used c.push.new.self
              (λ m d. c.push.ensures m (λ e. d (e ∙ c.len-count.ensures.count ∙ sym (length-map old plain_node)))) c.self.invariant.0),
          subst {A = List PlainNode} (λ xs. All (IsAccountOf xs) c.follow_new.new.accounts.items) (sym nodes) (c.follow_new.ensures (plain_nodes old) (plain_node a.node) bare (c.len-count.ensures.count ∙ sym (length-map old plain_node)) c.self.invariant.1),
          subst {A = List PlainNode} (λ xs. AreConstraintsMarked xs c.push-then-count-len.new.self) (sym nodes) (marked_new is_free_node (plain_nodes old) (plain_node a.node) (bare_free (plain_nodes old) (plain_node a.node) bare) c.self.inside.constrained c.push-then-count-len.new.self
              (λ m d. c.push-then-count-len.ensures m (λ e. d (e ∙ c.len-count.ensures.count ∙ sym (length-map old plain_node)))) c.self.invariant.2),
        )

pub invariant_of-self-else-count-len : goal.invariant_of-self-else-count-len
invariant_of-self-else-count-len c = go (found-added old new c.args.pair c.args.origin c.find_or_add.result c.find_or_add.ensures.present c.find_or_add.ensures.added c.find_or_add.ensures.full c.find_or_add.ensures.err)
  where
    old : List (Node (List Name))
    old = c.self.inside.table

    new : List (Node (List Name))
    new = c.find_or_add.new.self

    go : (new ≡ old) ⊎ Adds old new c.args.pair c.args.origin → AreMarked (plain_nodes new) c.self.inside.used × All (IsAccountOf (plain_nodes new)) c.self.inside.accounts.items × AreConstraintsMarked (plain_nodes new) c.self.inside.constrained
    go (inl same) = (
      subst {A = List (Node (List Name))} (λ xs. AreMarked (plain_nodes xs) c.self.inside.used) (sym same) c.self.invariant.0,
      subst {A = List (Node (List Name))} (λ xs. All (IsAccountOf (plain_nodes xs)) c.self.inside.accounts.items) (sym same) c.self.invariant.1,
      subst {A = List (Node (List Name))} (λ xs. AreConstraintsMarked (plain_nodes xs) c.self.inside.constrained) (sym same) c.self.invariant.2,
    )
    go (inr a) = absurd (omega (arith, c.if-count-len.false, c.len.ensures.count, c.len-count.ensures.count, ap length a.appended, length-append old (a.node ∷ [])))
