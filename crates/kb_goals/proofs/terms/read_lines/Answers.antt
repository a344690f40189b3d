use Rattle.std.proofs.Common.{arith, ◌≡◌, ◌+◌, ◌++◌, ◌∷◌, [], List, length, map, ap, sym, ◌∙◌, subst}
use Rattle.std.proofs.lemmas.List.{length_push, map-append}
use Rattle.kb_term.specs.Tree.{Tree, variable}
use Rattle.kb_term.specs.View.{tree_of}
use Rattle.kb_term.specs.declared.term.Term.{Term}
use Rattle.kb_text.specs.Terms.{names_of, term_text}
use Rattle.kb_report.proofs.SectionLaws.{AreReadItems, no_items, item_pushed, items_bad, items_whole}
use Rattle.kb_report.proofs.SidesRead.{some_equation}
use Rattle.kb_goals.specs.Simplifying.{IsNumberedTerm}
use Rattle.kb_goals.proofs.terms.read_lines.Goals as goal

pub loop-k-init : goal.loop-k-init
loop-k-init c =
    let sig = c.args.sig.now in
    let text = c.args.text.now in
    record {
      read = subst (λ (ts : List Term). AreReadItems (IsNumberedTerm sig) (λ k. term_text (names_of sig)) text (map tree_of ts) 0) (sym c.new-terms.ensures.items) (no_items (IsNumberedTerm sig) (λ k. term_text (names_of sig)) text);
      count = ap (λ (ts : List Term). length (map tree_of ts)) c.new-terms.ensures.items;
    }

pub split_at-requires : goal.split_at-requires
split_at-requires c = c.loop-k.invariant.read.within

pub loop-k-preserved : goal.loop-k-preserved
loop-k-preserved c =
    let sig = c.args.sig.now in
    let items = map tree_of c.loop-k.terms.items in
    let news = map tree_of c.push.new.self.items in
    let x : Tree = tree_of c.in-Some.term in
    let more : news ≡ items ++ x ∷ [] = ap (map tree_of) c.in_ok-push.ensures.items ∙ map-append tree_of c.loop-k.terms.items (c.in-Some.term ∷ []) in
    let long : length news ≡ length items + 1 = ap length more ∙ length_push items x in
    let count = c.loop-k.invariant.count in
    record {
      read = item_pushed (IsNumberedTerm sig) (λ k. term_text (names_of sig)) c.args.text.now c.split_at.result.1.now items news x c.loop-k.at c.in-Some.size (length items + 1) c.loop-k.invariant.read c.split_at.ensures.back (λ i. length items + 1) (rw c.in-Some.is at c.in_ok-term.ensures.read) (rw c.in-Some.is at c.in_ok-term.ensures.size) more;
      count = omega arith;
    }

pub returns-in_default-clause-fault : goal.returns-in_default-clause-fault
returns-in_default-clause-fault c =
    let sig = c.args.sig.now in
    let items = map tree_of c.loop-k.terms.items in
    let count = c.loop-k.invariant.count in
    items_bad (IsNumberedTerm sig) (λ k. term_text (names_of sig)) c.args.text.now c.split_at.result.1.now items c.loop-k.at c.args.count c.args.first (c.args.first + c.loop-k.k) (variable 0) (some_equation sig) c.loop-k.invariant.read c.split_at.ensures.back (omega arith) (omega arith) (rw c.in_default.is at c.in_ok-term.ensures.read)

pub returns-clause-read : goal.returns-clause-read
returns-clause-read c =
    let sig = c.args.sig.now in
    let count = c.loop-k.invariant.count in
    items_whole (IsNumberedTerm sig) (λ k. term_text (names_of sig)) c.args.text.now (map tree_of c.loop-k.terms.items) c.loop-k.at c.args.count c.loop-k.invariant.read (omega arith)
