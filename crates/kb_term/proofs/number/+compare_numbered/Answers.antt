use Rattle.std.proofs.Common.{◌≡◌, sym, ◌∙◌, arith, ap, ap₂, ◌+◌, drop, length}
use Rattle.std.specs.Prelude.{map}
use Rattle.std.specs.Ordering.{ordering_then, nat_cmp}
use Rattle.std.specs.declared.cmp.Ordering.TheVariants.{Equal}
use Rattle.kb_term.specs.Tree.{variable, apply, trees_of, tree_cmp, trees_cmp}
use Rattle.kb_term.proofs.Numbered.{instances-of}
use Rattle.kb_term.specs.Pair.{place_in}
use Rattle.kb_term.specs.Substitution.{rename, instances}
use Rattle.kb_term.specs.View.{tree_of}
use Rattle.kb_term.specs.declared.term.Term.{Term}
use Rattle.kb_term.proofs.Compared.{terms_cmp, terms_cmp_more, terms_cmp_end, ordering_then-ne}
use Rattle.kb_term.proofs.number.+compare_numbered.Goals as goal

pub loop-i-init : goal.loop-i-init
loop-i-init t c =
    let ts = c.ts.inside.items.items in
    let us = c.us.inside.items.items in
    let r = place_in c.args.forth.now in
    let q = place_in c.args.back.now in
    let one : tree_of c.args.s.now ≡ apply c.in-App-App.f.0 (trees_of (map tree_of ts)) = ap tree_of c.in-App-App.is-0 ∙ ap (λ vs. apply c.in-App-App.f.0 (trees_of vs)) (sym c.ts.view_is) in
    let other : tree_of c.args.t.now ≡ apply c.in-App-App.g.0 (trees_of (map tree_of us)) = ap tree_of c.in-App-App.is-1 ∙ ap (λ vs. apply c.in-App-App.g.0 (trees_of vs)) (sym c.us.view_is) in
    let same : nat_cmp c.in-App-App.f.0 c.in-App-App.g.0 ≡ Equal = sym c.cmp-in-App-App.ensures ∙ c.in-Equal.is in
    let first = instances (λ n. variable (r n)) (trees_of (map tree_of ts)) in
    let second = instances (λ n. variable (q n)) (trees_of (map tree_of us)) in
    ap₂ (λ x y. tree_cmp (rename r x) (rename q y)) one other ∙ ap (λ o. ordering_then o (trees_cmp first second)) same ∙ ap₂ trees_cmp (instances-of r ts) (instances-of q us)

pub returns-then-ne : goal.returns-then-ne
returns-then-ne t c =
    let v = (λ (u : Term). rename (place_in c.args.forth.now) (tree_of u)) in
    let w = (λ (u : Term). rename (place_in c.args.back.now) (tree_of u)) in
    let more = terms_cmp_more v w c.ts.inside.items.items c.us.inside.items.items c.loop-i.i c.index.result.now c.index-in-loop-i.result.now (grind arith) (grind arith) c.index.ensures c.index-in-loop-i.ensures in
    let rest = terms_cmp v w (drop (c.loop-i.i + 1) c.ts.inside.items.items) (drop (c.loop-i.i + 1) c.us.inside.items.items) in
    let first = ordering_then-ne c.compare_numbered-order.result rest (sym c.ne.ensures ∙ c.if-ne.true) in
    sym (c.loop-i.invariant ∙ more ∙ ap (λ o. ordering_then o rest) (sym c.compare_numbered-order.ensures) ∙ first)

pub returns-after-loop-i : goal.returns-after-loop-i
returns-after-loop-i t c =
    let v = (λ (u : Term). rename (place_in c.args.forth.now) (tree_of u)) in
    let w = (λ (u : Term). rename (place_in c.args.back.now) (tree_of u)) in
    let ts = c.ts.inside.items.items in
    let us = c.us.inside.items.items in
    let m : c.len-in-Equal-2.result ≡ length ts = grind arith in
    let n : c.len-in-Equal-3.result ≡ length us = grind arith in
    let end = terms_cmp_end v w ts us c.loop-i.i (grind arith) in
    c.cmp-in-Equal.ensures ∙ (λ k. nat_cmp (m k) (n k)) ∙ sym (c.loop-i.invariant ∙ end)
