use Rattle.std.proofs.Common.{arith, ◌≡◌, ◌+◌, ◌++◌, ◌∷◌, [], sym, ap, ◌∙◌, subst, take, map, List}
use Rattle.std.proofs.lemmas.List.{take_all, take_more, map-append}
use Rattle.kb_lemmas.proofs.Lists.{zip_push}
use Rattle.kb_term.specs.Rule.{Rule}
use Rattle.kb_term.specs.Tree.{Tree}
use Rattle.kb_term.specs.View.{tree_of}
use Rattle.kb_term.specs.declared.term.Term.{Term}
use Rattle.kb_checker.specs.Answers.{rules_of}
use Rattle.kb_goals.specs.Simplifying.{IsSimplified, AreSimplified}
use Rattle.kb_goals.specs.declared.simplifying.Simplified.{Simplified}
use Rattle.kb_goals.proofs.Meanings.{forms_right, forms_one}
use Rattle.kb_goals.proofs.simplifying.simplify_terms.Goals as goal

pub loop-k-preserved : goal.loop-k-preserved
loop-k-preserved c =
    let rules = rules_of c.args.answer.now.rules in
    let terms = c.args.terms.now in
    let k = c.loop-k.k in
    let t = c.index-terms-k.result in
    let z = c.in_ok-simplify.field-0 in
    let more : map tree_of (take (k + 1) terms) ≡ map tree_of (take k terms) ++ tree_of t ∷ [] =
    ap (map tree_of) (take_more terms k t c.loop-k-test.true ∙ ap (λ (x : Term). take k terms ++ x ∷ []) (sym c.index-terms-k.is)) ∙ map-append tree_of (take k terms) (t ∷ []) in
    let by : IsSimplified rules (tree_of t) z = subst (λ (rs : List Rule). IsSimplified rs (tree_of t) z) (c.deref.ensures.value ∙ c.in_ok-rules.ensures) c.in_ok-simplify.ensures in
    subst {A = List Tree} (λ ts. AreSimplified rules ts c.push.new.self.items) (sym more)
    (subst {A = List Simplified} (λ zs. AreSimplified rules (map tree_of (take k terms) ++ tree_of t ∷ []) zs) (sym {A = List Simplified} c.in_ok-push.ensures.items)
    (zip_push (IsSimplified rules) (map tree_of (take k terms)) c.loop-k.simplified.items (tree_of t) z c.loop-k.invariant by))

pub returns-clause-simplified : goal.returns-clause-simplified
returns-clause-simplified c =
    let all = take_all c.loop-k.k c.args.terms.now (omega (arith, c.loop-k-test.false)) in
    subst (λ (ts : List Term). AreSimplified (rules_of c.args.answer.now.rules) (map tree_of ts) c.loop-k.simplified.items) all c.loop-k.invariant

pub returns-clause-right : goal.returns-clause-right
returns-clause-right c = forms_right c.args.answer.now c.requires.good (map tree_of c.args.terms.now) c.loop-k.simplified.items c.requires.terms (returns-clause-simplified c)

pub returns-clause-one : goal.returns-clause-one
returns-clause-one c = forms_one c.args.answer.now c.requires.good (map tree_of c.args.terms.now) c.loop-k.simplified.items c.requires.terms (returns-clause-simplified c)
