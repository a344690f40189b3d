use Rattle.std.proofs.Common.{ℕ, ◌<◌, ◌≡◌, sym, ap, subst, arith, length, below_more, get_or, List}
use Rattle.kb_term.specs.Rule.{Rule}
use Rattle.kb_term.specs.View.{tree_of}
use Rattle.rule_index.specs.Index.{IsCandidate}
use Rattle.kb_rewrite.specs.Indexed.{IsIndexOf, Finds}
use Rattle.kb_rewrite.specs.Search.{IsRootRedex}
use Rattle.kb_rewrite.proofs.FirstRedexes.{rule_inside}
use Rattle.kb_rewrite.proofs.Positions.{false_true}
use Rattle.kb_rewrite.proofs.Tops.{not_admitted_none}
use Rattle.kb_rewrite.proofs.Indexing.{candidate_inside, key_at, number_at, found_before, first_rule_some, first_rule_none, none_before_candidate}
use Rattle.kb_rewrite.proofs.system.System.first_applying.Goals as goal
use Rattle.kb_rewrite.proofs.system.System.first_applying.Goals.{else-may_fit-via-then-may_fit+in_ok-applies-in-Scan+else-branch, else-may_fit-via-else-may_fit}

pub loop-i-init : goal.loop-i-init
loop-i-init c = λ j h r. absurd (omega (arith, h))

pub returns-then-branch : goal.returns-then-branch
returns-then-branch c = first_rule_some c.args.self.now c.self.inside.rules.now c.args.strict_only (tree_of c.args.whole.now) (tree_of c.args.t.now) c.loop-i.i c.index-self-i.result c.self.view_is c.loop-i-test.true (c.in_ok-applies-in-Scan.ensures.0 c.if-branch.true) c.loop-i.invariant

pub loop-i-preserved : goal.loop-i-preserved
loop-i-preserved c =
    let rules = c.self.inside.rules.now in
    let i = c.loop-i.i in
    let t = tree_of c.args.t.now in
    let whole = tree_of c.args.whole.now in
    elim c.else-may_fit.branch [
      | else-may_fit-via-then-may_fit+in_ok-applies-in-Scan+else-branch w ↦ below_more _ _ c.loop-i.invariant (first_rule_none c.args.self.now rules c.args.strict_only whole t i w.index-self-i.result c.self.view_is c.loop-i-test.true (λ h. false_true w.if-branch.false (w.in_ok-applies-in-Scan.ensures.1 h)))
      | else-may_fit-via-else-may_fit w ↦ below_more _ _ c.loop-i.invariant (not_admitted_none c.args.self.now rules c.args.strict_only whole t c.in-Scan.prints.now i c.top_of-top.result c.self.view_is (subst (Finds rules) c.in-Scan.is c.self.invariant.found) c.top_of-top.ensures (λ h. false_true w.if-may_fit.false (c.may_fit.ensures.1 h)))
    ]

pub bounds-self-inside-i-in-loop-k : goal.bounds-self-inside-i-in-loop-k
bounds-self-inside-i-in-loop-k c =
    let rules = c.self.inside.rules.now in
    let key = c.index.result.now in
    let index = c.in-Index.index in
    let t = tree_of c.args.t.now in
    let indexed : IsIndexOf (length rules) rules index = subst (Finds rules) c.in-Index.is c.self.invariant.found in
    let found : IsCandidate index t key = (c.in_ok-keys-in-Index.ensures.keys key).0 (key_at c.in_ok-keys-in-Index.keys.items c.loop-k.k key (omega (arith, c.loop-k-test.true, c.len-k-end.ensures)) c.index.ensures) in
    candidate_inside rules index t key indexed.numbered found

pub returns-then-branch-2 : goal.returns-then-branch-2
returns-then-branch-2 c =
    let rules = c.self.inside.rules.now in
    let key = c.index.result.now in
    let keys = c.in_ok-keys-in-Index.keys.items in
    let index = c.in-Index.index in
    let t = tree_of c.args.t.now in
    let whole = tree_of c.args.whole.now in
    let indexed : IsIndexOf (length rules) rules index = subst (Finds rules) c.in-Index.is c.self.invariant.found in
    let room : c.loop-k.k < length keys = omega (arith, c.loop-k-test.true, c.len-k-end.ensures) in
    let here : key ≡ get_or keys c.loop-k.k 0 = number_at keys c.loop-k.k key room c.index.ensures in
    let found : IsCandidate index t key = (c.in_ok-keys-in-Index.ensures.keys key).0 (key_at keys c.loop-k.k key room c.index.ensures) in
    first_rule_some c.args.self.now rules c.args.strict_only whole t key c.index-self-i-in-loop-k.result c.self.view_is (candidate_inside rules index t key indexed.numbered found) (c.in_ok-applies-in-Index.ensures.0 c.if-branch-2.true)
    (subst (λ (rs : List Rule). (j : ℕ) → j < key → ¬ IsRootRedex rs c.args.strict_only whole t j) c.self.view_is
    (none_before_candidate rules c.args.strict_only whole t index keys c.loop-k.k key indexed c.in_ok-keys-in-Index.ensures.matches c.in_ok-keys-in-Index.ensures.rising here
    (subst (λ (rs : List Rule). (m : ℕ) → m < c.loop-k.k → ¬ IsRootRedex rs c.args.strict_only whole t (get_or keys m 0)) (sym c.self.view_is) c.loop-k.invariant)))

pub loop-k-preserved : goal.loop-k-preserved
loop-k-preserved c =
    let rules = c.self.inside.rules.now in
    let key = c.index.result.now in
    let keys = c.in_ok-keys-in-Index.keys.items in
    let index = c.in-Index.index in
    let t = tree_of c.args.t.now in
    let whole = tree_of c.args.whole.now in
    let indexed : IsIndexOf (length rules) rules index = subst (Finds rules) c.in-Index.is c.self.invariant.found in
    let room : c.loop-k.k < length keys = omega (arith, c.loop-k-test.true, c.len-k-end.ensures) in
    let here : key ≡ get_or keys c.loop-k.k 0 = number_at keys c.loop-k.k key room c.index.ensures in
    let found : IsCandidate index t key = (c.in_ok-keys-in-Index.ensures.keys key).0 (key_at keys c.loop-k.k key room c.index.ensures) in
    below_more _ _ c.loop-k.invariant (subst (λ (n : ℕ). ¬ IsRootRedex c.args.self.now c.args.strict_only whole t n) here
    (first_rule_none c.args.self.now rules c.args.strict_only whole t key c.index-self-i-in-loop-k.result c.self.view_is (candidate_inside rules index t key indexed.numbered found) (λ h. false_true c.if-branch-2.false (c.in_ok-applies-in-Index.ensures.1 h))))

pub returns-after-loop-i : goal.returns-after-loop-i
returns-after-loop-i c j redex = c.loop-i.invariant j (omega (arith, rule_inside c.args.self.now j redex.0 redex.1, c.loop-i-test.false, ap (length {A = Rule}) c.self.view_is)) redex

pub returns-after-loop-k : goal.returns-after-loop-k
returns-after-loop-k c j redex =
    let rules = c.self.inside.rules.now in
    let keys = c.in_ok-keys-in-Index.keys.items in
    let t = tree_of c.args.t.now in
    let whole = tree_of c.args.whole.now in
    let indexed : IsIndexOf (length rules) rules c.in-Index.index = subst (Finds rules) c.in-Index.is c.self.invariant.found in
    let f = found_before rules c.args.strict_only whole t c.in-Index.index keys j indexed c.in_ok-keys-in-Index.ensures.matches (subst (λ (rs : List Rule). IsRootRedex rs c.args.strict_only whole t j) (sym c.self.view_is) redex) in
    c.loop-k.invariant f.0 (omega (arith, f.1, c.loop-k-test.false, c.len-k-end.ensures)) (subst (λ (rs : List Rule). IsRootRedex rs c.args.strict_only whole t (get_or keys f.0 0)) c.self.view_is f.3)
