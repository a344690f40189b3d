use Rattle.std.proofs.Common.{◌≡◌, ◌<◌, ℕ, List, Bool, false, length, get_or, ap, subst, ◌∙◌}
use Rattle.std.specs.Prelude.{filter, IfOk}
use Rattle.std.proofs.lemmas.List.Elements.{filter_agree}
use Rattle.kb_label.specs.Names.{Name, has}
use Rattle.fork_labels.specs.Places.{IsLog, living_of, names_of, at_end, picked, place_in, stands_for}
use Rattle.fork_labels.proofs.Picked.{sorted}
use Rattle.fork_labels.proofs.Stands.{has-stands, stands-filter}
use Rattle.fork_labels.proofs.labels.ForkLabelsLabels.names.Goals as goal

-- whether the place of a name is in the set
test : List Bool → List ℕ → Name → Bool
test set fs q = get_or set (place_in (names_of fs) q) false

tested : (fs : List ℕ) (bs : List Bool) → IsLog fs → 0 < length bs → filter (test (at_end fs bs) fs) (living_of fs) ≡ stands_for fs bs
unfolding test
tested fs bs l h = filter_agree (test (at_end fs bs) fs) (has (stands_for fs bs)) (λ q. has-stands fs l bs q h) (living_of fs) ∙ stands-filter fs l bs

pub returns-clause-names : goal.returns-clause-names
unfolding test
returns-clause-names c =
    let same : filter (test c.at_end.result c.args.log.now) (living_of c.args.log.now) ≡ stands_for c.args.log.now c.args.self.now =
    ap (λ (set : List Bool). filter (test set c.args.log.now) (living_of c.args.log.now)) c.at_end.ensures.set ∙ tested c.args.log.now c.args.self.now c.at_end.ensures.log c.at_end.ensures.some in
    subst (λ (l : List Name). IfOk c.names_at.result (λ names. names.items ≡ l)) same c.names_at.ensures

pub returns-clause-in_order : goal.returns-clause-in_order
returns-clause-in_order c = sorted (picked (at_end c.args.log.now c.args.self.now) (names_of c.args.log.now))
