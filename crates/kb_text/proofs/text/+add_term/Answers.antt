use Rattle.std.proofs.Common.{append_assoc, arith, ◌<◌, ◌++◌, ◌∷◌, [], sym, ap, ◌∙◌, length}
use Rattle.std.specs.Prelude.{take}
use Rattle.std.proofs.lemmas.List.{take_all}
use Rattle.kb_term.specs.Tree.{tree_depth}
use Rattle.kb_term.specs.View.{tree_of}
use Rattle.kb_term.proofs.Arguments.{argument-is, argument-depth, arguments-length}
use Rattle.kb_text.specs.Terms.{names_of, symbol_text, term_text, separator}
use Rattle.kb_text.proofs.FrontParts.{front_of_front}
use Rattle.kb_text.proofs.TextLaws.{opened_text, opened_more, closed, trees}
use Rattle.kb_text.proofs.text.+add_term.Goals as goal

pub add_term-requires : goal.add_term-requires
add_term-requires t c =
    let items = c.items-arguments.result.now in
    let here = argument-is items c.in-App.arguments c.loop-i.i c.index-arguments-i.result c.items-arguments.ensures c.loop-i-test.true c.index-arguments-i.is in
    let room : c.loop-i.i < length c.in-App.arguments = omega (arith, arguments-length items, ap length c.items-arguments.ensures, c.loop-i-test.true) in
    let falls : tree_depth (tree_of c.index-arguments-i.result) < tree_depth (tree_of c.args.t.now) = omega (arith, ap tree_depth here, argument-depth c.in-App.arguments c.loop-i.i room, ap (λ u. tree_depth (tree_of u)) c.in-App.is) in
    (omega (arith, falls, c.decreases), c.requires)

pub loop-i-preserved : goal.loop-i-preserved
loop-i-preserved t c =
    let names = names_of c.args.signature.now in
    let items = c.items-arguments.result.now in
    let before = opened_text names (trees (take c.loop-i.i items)) in record {
      added = c.in_ok-add_term-in-App.ensures.ok
          ∙ ap (λ bytes. bytes ++ term_text names (tree_of c.index-arguments-i.result)) (c.in_ok-push-in-App.ensures.items ∙ ap (λ b. c.loop-i.out.items ++ b ∷ []) c.separator_before.ensures ∙ ap (λ bytes. bytes ++ separator c.loop-i.i ∷ []) c.loop-i.invariant.added)
          ∙ append_assoc (c.push_symbol.new.out.items ++ before) (separator c.loop-i.i ∷ []) (term_text names (tree_of c.index-arguments-i.result))
          ∙ append_assoc c.push_symbol.new.out.items before (separator c.loop-i.i ∷ term_text names (tree_of c.index-arguments-i.result))
          ∙ ap (c.push_symbol.new.out.items ++◌) (ap (λ u. before ++ separator c.loop-i.i ∷ term_text names (tree_of u)) c.index-arguments-i.is ∙ sym (opened_more names items c.loop-i.i c.index-arguments-i.result c.loop-i-test.true));
      all = c.loop-i.invariant.all;
    }

pub returns-in_ok-push-in-App-2-clause-ok : goal.returns-in_ok-push-in-App-2-clause-ok
returns-in_ok-push-in-App-2-clause-ok t c =
    let names = names_of c.args.signature.now in
    let items = c.items-arguments.result.now in
    let some : 0 < length items = grind arith in
    c.in_ok-push-in-App-2.ensures.items
    ∙ ap (λ bytes. bytes ++ 41 ∷ []) (c.loop-i.invariant.added ∙ ap (λ ts. c.push_symbol.new.out.items ++ opened_text names (trees ts)) (take_all c.loop-i.i items c.loop-i-test.false))
    ∙ append_assoc c.push_symbol.new.out.items (opened_text names (trees items)) (41 ∷ [])
    ∙ ap (c.push_symbol.new.out.items ++◌) (closed names items some)
    ∙ sym c.loop-i.invariant.all

pub returns-in_err-add_term-in-App-clause-front : goal.returns-in_err-add_term-in-App-clause-front
returns-in_err-add_term-in-App-clause-front t c =
    let names = names_of c.args.signature.now in
    let before = opened_text names (trees (take c.loop-i.i c.items-arguments.result.now)) in
    let sign = c.separator_before.result ∷ [] in
    let behind_symbol = c.push_symbol.new.out.items in
    front_of_front c.args.out.now.items (symbol_text names c.in-App.f.0) behind_symbol c.add_term.new.out.items c.in_ok-push_symbol-in-App.ensures.ok
    (
    front_of_front behind_symbol (before ++ sign) c.push.new.self.items c.add_term.new.out.items
    (c.in_ok-push-in-App.ensures.items ∙ ap (λ bytes. bytes ++ sign) c.loop-i.invariant.added ∙ append_assoc behind_symbol before sign)
    c.add_term.ensures.front
    )
