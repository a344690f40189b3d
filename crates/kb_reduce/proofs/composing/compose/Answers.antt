use Rattle.std.proofs.Common.{ℕ, ◌+◌, ◌≡◌, ◌∙◌, refl, sym, ap, subst, arith, [], ◌∷◌, ◌++◌, append_assoc, append-nil, length, length-append, Some, Err}
use Rattle.std.specs.Prelude.{slice_get}
use Rattle.std.proofs.lemmas.Option.{slice_get-get_or, same_Some}
use Rattle.kb_lemmas.proofs.Membership.{slice_contains}
use Rattle.kb_term.specs.Pair.{canonical}
use Rattle.kb_term.specs.Rule.{Rule, rule_between}
use Rattle.kb_term.specs.View.{tree_of}
use Rattle.kb_term.specs.FewArguments.{HasFewArguments}
use Rattle.kb_rewrite.specs.NormalForm.{long, large}
use Rattle.kb_rewrite.specs.Search.{IsStepAnswer}
use Rattle.kb_overlap.specs.Trace.{TraceStep}
use Rattle.kb_reduce.specs.Reducing.{rewriting, with_right, AreRewritings}
use Rattle.kb_reduce.specs.Telling.{IsLimitWhy}
use Rattle.kb_reduce.proofs.Turn.{made_by, index_by, composed_by, long_by, large_by, rewritings_more, by_traced, few_here, traced_here, pair_few, pair_differs}
use Rattle.kb_reduce.proofs.composing.compose.Goals as goal

pub loop-init : goal.loop-init
loop-init c =
    let given : Rule × ℕ = (c.in_ok-clone.field-0, c.index-rules-k.result.1) in
    record {
      more = [];
      steps = sym (append-nil c.args.steps.now.items);
      count = refl;
      rewritings = λ r e.
          let at : slice_get c.args.a.now.rules c.args.k ≡ Some c.index-rules-k.result = ap (λ xs. slice_get xs c.args.k) (sym c.rules.ensures) ∙ slice_get-get_or c.rules.result.now c.args.k c.index-rules-k.result (omega (arith, c.requires.there, ap (length {A = Rule × ℕ}) c.rules.ensures)) ∙ ap Some (sym c.index-rules-k.is) in
          let same : r ≡ c.index-rules-k.result = same_Some _ _ (sym e ∙ at) in
          same ∙ (λ i. (sym c.in_ok-clone.ensures.cases i, c.index-rules-k.result.1));
    }

pub first_redex-requires-clause-few_arguments : goal.first_redex-requires-clause-few_arguments
first_redex-requires-clause-few_arguments c = subst HasFewArguments (sym c.right.ensures) (few_here c.args.a.now c.requires.form c.requires.good c.args.steps.now.items c.requires.behind c.args.k c.requires.there c.loop.invariant.more c.loop.rule c.loop.invariant.rewritings)

pub first_redex-requires-2-clause-few_arguments : goal.first_redex-requires-2-clause-few_arguments
first_redex-requires-2-clause-few_arguments c = subst HasFewArguments (sym c.right-2.ensures) (few_here c.args.a.now c.requires.form c.requires.good c.args.steps.now.items c.requires.behind c.args.k c.requires.there c.loop.invariant.more c.loop.rule c.loop.invariant.rewritings)

pub returns-in_default : goal.returns-in_default
returns-in_default c r e = (c.loop.invariant.more, c.loop.invariant.steps, composed_by c.args.a.now.rules (length c.args.steps.now.items) c.loop.invariant.more r c.loop.rule c.args.alone.now (tree_of c.right.result.now) c.in_ok-redex.field-0 c.requires.alone c.right.ensures c.in_ok-redex.ensures c.in_default.is (omega (arith, c.loop.invariant.count, c.loop-test.true)) (c.loop.invariant.rewritings r e))

pub returns-in-None : goal.returns-in-None
returns-in-None c r e = (c.loop.invariant.more, c.loop.invariant.steps, composed_by c.args.a.now.rules (length c.args.steps.now.items) c.loop.invariant.more r c.loop.rule c.args.alone.now (tree_of c.right-2.result.now) c.in_ok-first_redex.field-0 c.requires.alone c.right-2.ensures c.in_ok-first_redex.ensures c.in-None.is (omega (arith, c.loop.invariant.count, c.loop-test.false, c.loop.auto.counter-end)) (c.loop.invariant.rewritings r e))

pub returns-in-Some-2 : goal.returns-in-Some-2
returns-in-Some-2 c r e = (long 10000, long_by c.args.a.now.rules (length c.args.steps.now.items) c.loop.invariant.more r c.loop.rule c.args.alone.now (tree_of c.right-2.result.now) c.in_ok-first_redex.field-0 c.in-Some-2.field-0 c.requires.alone c.right-2.ensures c.in_ok-first_redex.ensures c.in-Some-2.is (omega (arith, c.loop.invariant.count, c.loop-test.false, c.loop.auto.counter-end)) (c.loop.invariant.rewritings r e), refl)

pub returns-in-Err-Large : goal.returns-in-Err-Large
returns-in-Err-Large c r e = (
  large c.in-Err-Large.limit,
  large_by c.args.a.now.rules (length c.args.steps.now.items) c.loop.invariant.more r c.loop.rule c.args.alone.now (tree_of c.right.result.now) (tree_of c.right-in-loop.result.now) c.in_ok-redex.field-0 c.in-Some.redex c.in-Err-Large.limit c.requires.alone c.right.ensures c.right-in-loop.ensures c.in_ok-redex.ensures c.in-Some.is (subst (λ f. IsStepAnswer c.args.alone.now (tree_of c.right-in-loop.result.now) c.in-Some.redex.position c.in-Some.redex.rule (Err f)) c.in-Err-Large.field-0-is c.in-Err-Large.ensures) (omega (arith, c.loop.invariant.count, c.loop-test.true)) (c.loop.invariant.rewritings r e),
  subst (λ l. IsLimitWhy l c.why_of.result) c.in-Err-Large.limit-is c.why_of.ensures,
)

pub bounds-rules-redex : goal.bounds-rules-redex
bounds-rules-redex c = omega (arith, index_by c.args.a.now.rules c.args.alone.now (tree_of c.right.result.now) c.in_ok-redex.field-0 c.in-Some.redex c.requires.alone c.in_ok-redex.ensures c.in-Some.is, ap (length {A = Rule × ℕ}) c.rules-in-Ok.ensures)

pub pair_of-requires-clause-few : goal.pair_of-requires-clause-few
pair_of-requires-clause-few c =
    let room = index_by c.args.a.now.rules c.args.alone.now (tree_of c.right.result.now) c.in_ok-redex.field-0 c.in-Some.redex c.requires.alone c.in_ok-redex.ensures c.in-Some.is in
    let w = made_by c.args.a.now.rules c.rules-in-Ok.result.now c.args.alone.now c.loop.rule c.index-rules-redex.result (tree_of c.right.result.now) (tree_of c.right-in-loop.result.now) c.in_ok-redex.field-0 c.in-Some.redex c.in-Ok.next c.requires.alone c.right.ensures c.right-in-loop.ensures c.in_ok-redex.ensures c.in-Some.is c.in-Ok.ensures c.rules-in-Ok.ensures (omega (arith, room, ap (length {A = Rule × ℕ}) c.rules-in-Ok.ensures)) c.index-rules-redex.is in
    pair_few c.args.a.now c.requires.form c.requires.good c.args.steps.now.items c.requires.behind c.args.k c.requires.there c.loop.invariant.more c.loop.rule c.loop.invariant.rewritings (rewriting c.loop.rule c.in-Some.redex.position c.index-rules-redex.result (tree_of c.in-Ok.next)) (tree_of c.left.result.now) (tree_of c.in-Ok.next) c.left.ensures w

pub pair_of-requires-clause-different : goal.pair_of-requires-clause-different
pair_of-requires-clause-different c =
    let room = index_by c.args.a.now.rules c.args.alone.now (tree_of c.right.result.now) c.in_ok-redex.field-0 c.in-Some.redex c.requires.alone c.in_ok-redex.ensures c.in-Some.is in
    let w = made_by c.args.a.now.rules c.rules-in-Ok.result.now c.args.alone.now c.loop.rule c.index-rules-redex.result (tree_of c.right.result.now) (tree_of c.right-in-loop.result.now) c.in_ok-redex.field-0 c.in-Some.redex c.in-Ok.next c.requires.alone c.right.ensures c.right-in-loop.ensures c.in_ok-redex.ensures c.in-Some.is c.in-Ok.ensures c.rules-in-Ok.ensures (omega (arith, room, ap (length {A = Rule × ℕ}) c.rules-in-Ok.ensures)) c.index-rules-redex.is in
    pair_differs c.args.a.now c.requires.form c.requires.good c.args.steps.now.items c.requires.behind c.args.k c.requires.there c.loop.invariant.more c.loop.rule c.loop.invariant.rewritings (rewriting c.loop.rule c.in-Some.redex.position c.index-rules-redex.result (tree_of c.in-Ok.next)) (tree_of c.left.result.now) (tree_of c.in-Ok.next) c.left.ensures w

pub origin_of-origin-requires-clause-rule : goal.origin_of-origin-requires-clause-rule
origin_of-origin-requires-clause-rule c = traced_here c.args.a.now c.requires.form c.requires.good c.args.steps.now.items c.requires.behind c.args.k c.requires.there c.loop.invariant.more c.loop.rule c.loop.invariant.rewritings c.deref.result.now (c.deref.ensures.value ∙ c.loop.invariant.steps)

pub origin_of-origin-requires-clause-by : goal.origin_of-origin-requires-clause-by
origin_of-origin-requires-clause-by c =
    let room = index_by c.args.a.now.rules c.args.alone.now (tree_of c.right.result.now) c.in_ok-redex.field-0 c.in-Some.redex c.requires.alone c.in_ok-redex.ensures c.in-Some.is in
    let at : slice_get c.args.a.now.rules c.in-Some.redex.rule ≡ Some c.index-rules-redex.result = ap (λ xs. slice_get xs c.in-Some.redex.rule) (sym c.rules-in-Ok.ensures) ∙ slice_get-get_or c.rules-in-Ok.result.now c.in-Some.redex.rule c.index-rules-redex.result (omega (arith, room, ap (length {A = Rule × ℕ}) c.rules-in-Ok.ensures)) ∙ ap Some (sym c.index-rules-redex.is) in
    by_traced c.args.a.now c.requires.form c.requires.good c.args.steps.now.items c.requires.behind c.loop.invariant.more c.deref.result.now c.index-rules-redex.result (c.deref.ensures.value ∙ c.loop.invariant.steps) (slice_contains c.args.a.now.rules c.in-Some.redex.rule c.index-rules-redex.result at)

pub loop-preserved : goal.loop-preserved
loop-preserved c =
    let old = c.args.steps.now.items in
    let more = c.loop.invariant.more in
    let rule = c.loop.rule in
    let u = tree_of c.in-Ok.next in
    let by = c.index-rules-redex.result in
    let step = rewriting rule c.in-Some.redex.position by u in
    let room = index_by c.args.a.now.rules c.args.alone.now (tree_of c.right.result.now) c.in_ok-redex.field-0 c.in-Some.redex c.requires.alone c.in_ok-redex.ensures c.in-Some.is in
    let w = made_by c.args.a.now.rules c.rules-in-Ok.result.now c.args.alone.now rule by (tree_of c.right.result.now) (tree_of c.right-in-loop.result.now) c.in_ok-redex.field-0 c.in-Some.redex c.in-Ok.next c.requires.alone c.right.ensures c.right-in-loop.ensures c.in_ok-redex.ensures c.in-Some.is c.in-Ok.ensures c.rules-in-Ok.ensures (omega (arith, room, ap (length {A = Rule × ℕ}) c.rules-in-Ok.ensures)) c.index-rules-redex.is in
    let told : c.new.result ≡ step = λ i. record { origin = (c.new.ensures.origin ∙ c.origin_of-origin.ensures) i; pair = (c.new.ensures.pair ∙ c.in_ok-pair-in-Ok.ensures ∙ ap (λ l. canonical l u) c.left.ensures) i } in
    let items : c.push.new.self.items ≡ old ++ (more ++ step ∷ []) = c.in_ok-push-in-Ok.ensures.items ∙ ap (λ s. c.loop.steps.items ++ s ∷ []) told ∙ ap (λ xs. xs ++ step ∷ []) c.loop.invariant.steps ∙ append_assoc old more (step ∷ []) in
    let number : length old + length more + 1 ≡ c.len.result = omega (arith, c.len.ensures, ap (length {A = TraceStep}) items, length-append old (more ++ step ∷ []), length-append more (step ∷ [])) in
    let next : with_right rule u (length old + length more + 1) ≡ (c.new-in-Ok.result, c.len.result) = λ i. (sym (c.new-in-Ok.ensures ∙ ap (λ l. rule_between l u) (ap tree_of c.in_ok-left-in-Ok.ensures.cases ∙ c.left-in-Ok.ensures)) i, number i) in
    record {
      more = more ++ step ∷ [];
      steps = items;
      count = omega (arith, c.loop.invariant.count, length-append more (step ∷ []));
      rewritings = λ r e. subst (AreRewritings c.args.a.now.rules (length old) (more ++ step ∷ []) r) next (rewritings_more c.args.a.now.rules (length old) more step r rule u (c.loop.invariant.rewritings r e) w);
    }
