use Rattle.std.proofs.Common.{◌≡◌, ◌∷◌, [], ◌++◌, sym, ap, ◌∙◌, ◌⊎◌, List, inl, inr, length}
use Rattle.std.specs.Prelude.{map, replicate}
use Rattle.kb_term.specs.Tree.{Tree, variable, trees_of, list_of}
use Rattle.kb_term.specs.View.{tree_of}
use Rattle.kb_term.proofs.Arguments.{arguments-length}
use Rattle.rule_index.proofs.Strings.{list_of-trees}
use Rattle.rule_index.specs.declared.branch.Branch.{Branch}
use Rattle.rule_index.specs.Pending.{pending}
use Rattle.rule_index.specs.Walk.{hits}
use Rattle.rule_index.proofs.Hits.{hits_none, hits_any, hits_skipped, hits_taken, hits_inside, hits_beside, added_both, added_rest}
use Rattle.rule_index.proofs.index.+gather.Goals as goal
use Rattle.rule_index.proofs.index.+gather.Goals.{in-Some+in-Any-default+in_ok-gather-in-Any-default, in-Some+in-Apply-Var+else-loose, in-Some+in-Apply-Var+then-loose+in_ok-gather-in-Apply-Var, in-Some+in-Apply-App+then-f-g+then-count-arguments+in_ok-gather-in-Apply-App, in-Some+in-Apply-App+else-f-g, else-f-g-via-then-f-g+else-count-arguments, else-f-g-via-else-f-g, in_default}

pub returns-in_ok-gather-in-Node : goal.returns-in_ok-gather-in-Node
returns-in_ok-gather-in-Node t c =
    let ts = pending c.args.stack.now in
    let rest : Branch = c.in-Node.rest.value in
    let behind : c.gather-in-Node.new.keys.items ≡ c.match-next.keys.items ++ hits c.args.loose rest ts = c.in_ok-gather-in-Node.ensures ∙ ap (λ (b : Branch). c.match-next.keys.items ++ hits c.args.loose b ts) c.deref-in-Node.ensures in
    elim c.match-next.branch [
      | in-Some+in-Any-default+in_ok-gather-in-Any-default w ↦
          let us = pending w.in-Some.below in
          let d : ts ≡ tree_of w.in-Some.t.now ∷ us = cc w.in-Some.ensures in
          let e : c.match-next.keys.items ≡ c.args.keys.now.items ++ hits c.args.loose c.in-Node.inner.value us =
          ap (λ v. v.items) w.keys-is ∙ w.in_ok-gather-in-Any-default.ensures ∙ ap (λ (b : Branch). c.args.keys.now.items ++ hits c.args.loose b us) w.deref-in-Any-default.ensures in
          added_both _ _ _ _ _ _ behind e (hits_any c.args.loose _ _ _ _ _ _ _ _ _ c.in-Node.is w.in-Any-default.is-0 d)
      | in-Some+in-Apply-Var+else-loose w ↦
          let us = pending w.in-Some.below in
          let d : ts ≡ tree_of w.in-Some.t.now ∷ us = cc w.in-Some.ensures in
          added_rest _ _ _ _ _ behind (ap (λ v. v.items) w.keys-is) (hits_skipped c.args.loose _ _ _ _ _ _ _ _ _ _ _ c.in-Node.is w.in-Apply-Var.is-0 (d ∙ ap (λ u. tree_of u ∷ us) w.in-Apply-Var.is-1) w.if-loose.false)
      | in-Some+in-Apply-Var+then-loose+in_ok-gather-in-Apply-Var w ↦
          let us = pending w.in-Some.below in
          let d : ts ≡ tree_of w.in-Some.t.now ∷ us = cc w.in-Some.ensures in
          let x : tree_of w.in-Some.t.now ≡ variable w.in-Apply-Var.field-0-1 = ap tree_of w.in-Apply-Var.is-1 in
          let e : c.match-next.keys.items ≡ c.args.keys.now.items ++ hits c.args.loose c.in-Node.inner.value (replicate w.in-Apply-Var.count (variable w.in-Apply-Var.field-0-1) ++ us) =
          ap (λ v. v.items) w.keys-is ∙ w.in_ok-gather-in-Apply-Var.ensures
          ∙ ap (λ (b : Branch). c.args.keys.now.items ++ hits c.args.loose b (replicate w.in-Apply-Var.count (tree_of w.in-Some.t.now) ++ us)) w.deref-then-loose.ensures
          ∙ ap (λ (v : Tree). c.args.keys.now.items ++ hits c.args.loose c.in-Node.inner.value (replicate w.in-Apply-Var.count v ++ us)) x in
          added_both _ _ _ _ _ _ behind e (hits_taken c.args.loose _ _ _ _ _ _ _ _ _ _ _ c.in-Node.is w.in-Apply-Var.is-0 (d ∙ ap (λ u. tree_of u ∷ us) w.in-Apply-Var.is-1) w.if-loose.true)
      | in-Some+in-Apply-App+then-f-g+then-count-arguments+in_ok-gather-in-Apply-App w ↦
          let us = pending w.in-Some.below in
          let d : ts ≡ tree_of w.in-Some.t.now ∷ us = cc w.in-Some.ensures in
          let listed : map tree_of w.items-arguments.result.now ≡ list_of (trees_of w.in-Apply-App.arguments) = w.items-arguments.ensures ∙ sym (list_of-trees w.in-Apply-App.arguments) in
          let many : w.in-Apply-App.count ≡ length (list_of (trees_of w.in-Apply-App.arguments)) = w.if-count-arguments.true ∙ sym (arguments-length w.items-arguments.result.now) ∙ ap length listed in
          let e : c.match-next.keys.items ≡ c.args.keys.now.items ++ hits c.args.loose c.in-Node.inner.value (list_of (trees_of w.in-Apply-App.arguments) ++ us) =
          ap (λ v. v.items) w.keys-is ∙ w.in_ok-gather-in-Apply-App.ensures
          ∙ ap (λ (b : Branch). c.args.keys.now.items ++ hits c.args.loose b (map tree_of w.items-arguments.result.now ++ us)) w.deref-then-count-arguments.ensures
          ∙ ap (λ (vs : List Tree). c.args.keys.now.items ++ hits c.args.loose c.in-Node.inner.value (vs ++ us)) listed in
          added_both _ _ _ _ _ _ behind e (hits_inside c.args.loose _ _ _ _ _ _ _ _ _ _ _ _ c.in-Node.is w.in-Apply-App.is-0 (d ∙ ap (λ u. tree_of u ∷ us) w.in-Apply-App.is-1) w.if-f-g.true many)
      | in-Some+in-Apply-App+else-f-g w ↦
          let us = pending w.in-Some.below in
          let d : ts ≡ tree_of w.in-Some.t.now ∷ us = cc w.in-Some.ensures in
          let listed : map tree_of w.items-arguments.result.now ≡ list_of (trees_of w.in-Apply-App.arguments) = w.items-arguments.ensures ∙ sym (list_of-trees w.in-Apply-App.arguments) in
          let many : length w.items-arguments.result.now ≡ length (list_of (trees_of w.in-Apply-App.arguments)) = sym (arguments-length w.items-arguments.result.now) ∙ ap length listed in
          let clash : (¬ (w.in-Apply-App.f ≡ w.in-Apply-App.g.0)) ⊎ (¬ (w.in-Apply-App.count ≡ length (list_of (trees_of w.in-Apply-App.arguments)))) =
          elim w.else-f-g.branch [
            | else-f-g-via-then-f-g+else-count-arguments u ↦ inr (λ q. u.if-count-arguments.false (q ∙ sym many))
            | else-f-g-via-else-f-g u ↦ inl u.if-f-g.false
          ] in
          added_rest _ _ _ _ _ behind (ap (λ v. v.items) w.keys-is) (hits_beside c.args.loose _ _ _ _ _ _ _ _ _ _ _ _ c.in-Node.is w.in-Apply-App.is-0 (d ∙ ap (λ u. tree_of u ∷ us) w.in-Apply-App.is-1) clash)
      | in_default w ↦
          let d : ts ≡ [] = cc w.in_default.ensures in
          added_rest _ _ _ _ _ behind (ap (λ v. v.items) w.keys-is) (hits_none c.args.loose _ _ _ _ _ _ _ c.in-Node.is d)
    ]
