use Rattle.std.proofs.Common.{◌≡◌, sym, ap₂, ◌∙◌, arith, true, false}
use Rattle.std.specs.Ordering.{ordering_then, is_gt}
use Rattle.kb_term.specs.Tree.{Tree}
use Rattle.kb_term.specs.Pair.{variables_of_pair}
use Rattle.kb_term.specs.View.{tree_of}
use Rattle.kb_term.proofs.Compared.{greater-index}
use Rattle.kb_term.proofs.NameList.{variables_of_pair-swapped}
use Rattle.kb_term.proofs.LesserPairs.{few_names, lesser_back, lesser_forth}
use Rattle.kb_term.proofs.number.lesser_pair.Goals as goal

pub returns-in_ok-numbered-2 : goal.returns-in_ok-numbered-2
returns-in_ok-numbered-2 c =
    let a = tree_of c.args.a.now in
    let b = tree_of c.args.b.now in
    let forth : c.of-forth.result ≡ variables_of_pair a b = few_names a b c.of-forth.result c.of-forth.ensures c.requires in
    let back : c.of-back.result ≡ variables_of_pair b a = few_names b a c.of-back.result c.of-back.ensures (omega (arith, c.requires, variables_of_pair-swapped b a)) in
    let order = c.then-order.ensures ∙ ap₂ ordering_then c.compare_numbered-firsts.ensures c.compare_numbered.ensures in
    let greater : is_gt c.then-order.result ≡ true = sym (greater-index c.then-order.result) ∙ sym c.eq.ensures ∙ c.if-eq.true in
    ap₂ (λ (s t : Tree). record { first = s; second = t }) c.in_ok-numbered.ensures c.in_ok-numbered-2.ensures ∙ lesser_back a b c.of-forth.result c.of-back.result forth back c.then-order.result order greater

pub returns-in_ok-numbered-4 : goal.returns-in_ok-numbered-4
returns-in_ok-numbered-4 c =
    let a = tree_of c.args.a.now in
    let b = tree_of c.args.b.now in
    let forth : c.of-forth.result ≡ variables_of_pair a b = few_names a b c.of-forth.result c.of-forth.ensures c.requires in
    let back : c.of-back.result ≡ variables_of_pair b a = few_names b a c.of-back.result c.of-back.ensures (omega (arith, c.requires, variables_of_pair-swapped b a)) in
    let order = c.then-order.ensures ∙ ap₂ ordering_then c.compare_numbered-firsts.ensures c.compare_numbered.ensures in
    let lesser : is_gt c.then-order.result ≡ false = sym (greater-index c.then-order.result) ∙ sym c.eq.ensures ∙ c.if-eq.false in
    ap₂ (λ (s t : Tree). record { first = s; second = t }) c.in_ok-numbered-3.ensures c.in_ok-numbered-4.ensures ∙ lesser_forth a b c.of-forth.result c.of-back.result forth back c.then-order.result order lesser
