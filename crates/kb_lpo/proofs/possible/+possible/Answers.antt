use Rattle.std.proofs.Common.{ap, ◌∙◌, subst, ◌+◌, ◌≤◌, ◌⊎◌, arith, map, ◌≡◌, length}
use Rattle.std.proofs.lemmas.List.{length-map}
use Rattle.std.proofs.lemmas.Bool.{false≢true}
use Rattle.kb_term.specs.View.{tree_of}
use Rattle.kb_lpo.specs.PathOrder.{LpoGreater}
use Rattle.kb_lpo.specs.Agreeing.{IsNoWitness}
use Rattle.kb_lpo.proofs.Places.{at_from, at_within, between_more}
use Rattle.kb_lpo.proofs.Exact.{variable_above}
use Rattle.kb_lpo.proofs.Cases.{each_above, witness_needed, witness_after_difference, witness_after_end, witness_before}
use Rattle.kb_lpo.proofs.Answering.{ends, form, impossible, member_size, no, part_smaller, same_index}
use Rattle.kb_lpo.proofs.possible.+possible.Goals as goal

pub possible-possible-requires : goal.possible-possible-requires
possible-possible-requires t c =
    let a = part_smaller c.args.s.now c.in-App-App.f c.in-App-App.front c.items-ss.result.now c.agreement-n.result c.index-ss-n.result c.in-App-App.is-0 c.items-ss.ensures (grind arith) c.index-ss-n.is in
    let b = part_smaller c.args.t.now c.in-App-App.g c.in-App-App.back c.items-ts.result.now c.agreement-n.result c.index-ts-n.result c.in-App-App.is-1 c.items-ts.ensures (grind arith) c.index-ts-n.is in
    (omega (arith, c.decreases, a, b), tt)

pub possible-returns-then-possible : goal.possible-returns-then-possible
possible-returns-then-possible t c =
    let ss = c.items-ss.result.now in
    let ts = c.items-ts.result.now in
    let es = form c.args.s.now c.in-App-App.f c.in-App-App.front ss c.in-App-App.is-0 c.items-ss.ensures in
    let et = form c.args.t.now c.in-App-App.g c.in-App-App.back ts c.in-App-App.is-1 c.items-ts.ensures in
    λ prec fit l. c.possible_each.ensures prec fit (each_above prec (tree_of c.args.s.now) (tree_of c.args.t.now) c.in-App-App.f.0 c.in-App-App.g.0 (map tree_of ss) (map tree_of ts) es et (c.agreement-n.result + 1) (length ts) l)

pub possible-returns-then-n-ts : goal.possible-returns-then-n-ts
possible-returns-then-n-ts t c =
    let ss = c.items-ss.result.now in
    let ts = c.items-ts.result.now in
    let n = c.agreement-n.result in
    let es = form c.args.s.now c.in-App-App.f c.in-App-App.front ss c.in-App-App.is-0 c.items-ss.ensures in
    let et = form c.args.t.now c.in-App-App.g c.in-App-App.back ts c.in-App-App.is-1 c.items-ts.ensures in
    let e : c.in-App-App.f.0 ≡ c.in-App-App.g.0 = grind arith in
    λ prec fit l.
    let w = witness_after_difference prec (tree_of c.args.s.now) (tree_of c.args.t.now) c.in-App-App.f.0 c.in-App-App.g.0 (map tree_of ss) (map tree_of ts) es et n (tree_of c.index-ss-n.result) (tree_of c.index-ts-n.result) e c.agreement-n.ensures (at_from ss n c.index-ss-n.result (grind arith) c.index-ss-n.is) (at_from ts n c.index-ts-n.result (grind arith) c.index-ts-n.is) (impossible (c.possible.ensures prec fit) c.if-possible.false) l in
    let h = witness_before prec (tree_of c.args.t.now) ss (n + 1) c.first_witness.result w (c.first_witness.ensures prec fit) in
    grind (arith, h)

pub possible-returns-else-n-ss : goal.possible-returns-else-n-ss
possible-returns-else-n-ss t c =
    let ss = c.items-ss.result.now in
    let ts = c.items-ts.result.now in
    let n = c.agreement-n.result in
    let es = form c.args.s.now c.in-App-App.f c.in-App-App.front ss c.in-App-App.is-0 c.items-ss.ensures in
    let et = form c.args.t.now c.in-App-App.g c.in-App-App.back ts c.in-App-App.is-1 c.items-ts.ensures in
    let e : c.in-App-App.f.0 ≡ c.in-App-App.g.0 = grind arith in
    let end : (length (map tree_of ss) ≤ n) ⊎ (length (map tree_of ts) ≤ n) = ends ss ts n (grind arith) in
    λ prec fit l.
    let w = witness_after_end prec (tree_of c.args.s.now) (tree_of c.args.t.now) c.in-App-App.f.0 c.in-App-App.g.0 (map tree_of ss) (map tree_of ts) es et n e c.agreement-n.ensures end l in
    let h = witness_before prec (tree_of c.args.t.now) ss n c.first_witness-then-eq.result w (c.first_witness-then-eq.ensures prec fit) in
    grind (arith, h)

pub possible-returns-then-is_from : goal.possible-returns-then-is_from
possible-returns-then-is_from t c =
    let ss = c.items-ss.result.now in
    let ts = c.items-ts.result.now in
    let es = form c.args.s.now c.in-App-App.f c.in-App-App.front ss c.in-App-App.is-0 c.items-ss.ensures in
    let et = form c.args.t.now c.in-App-App.g c.in-App-App.back ts c.in-App-App.is-1 c.items-ts.ensures in
    let d : ¬ (c.in-App-App.f.0 ≡ c.in-App-App.g.0) = λ q. false≢true (grind arith) in
    λ prec fit l.
    let up = c.is_from.ensures c.if-is_from.true prec fit in
    let w = witness_needed prec (tree_of c.args.s.now) (tree_of c.args.t.now) c.in-App-App.f.0 c.in-App-App.g.0 (map tree_of ss) (map tree_of ts) es et d (λ a. omega (arith, a, up)) l in
    let h = witness_before prec (tree_of c.args.t.now) ss 0 c.first_witness-then-is_from.result w (c.first_witness-then-is_from.ensures prec fit) in
    grind (arith, h)

pub possible-returns-else-is_from : goal.possible-returns-else-is_from
possible-returns-else-is_from t c =
    let ss = c.items-ss.result.now in
    let ts = c.items-ts.result.now in
    let es = form c.args.s.now c.in-App-App.f c.in-App-App.front ss c.in-App-App.is-0 c.items-ss.ensures in
    let et = form c.args.t.now c.in-App-App.g c.in-App-App.back ts c.in-App-App.is-1 c.items-ts.ensures in
    λ prec fit l. c.possible_each-else-is_from.ensures prec fit (each_above prec (tree_of c.args.s.now) (tree_of c.args.t.now) c.in-App-App.f.0 c.in-App-App.g.0 (map tree_of ss) (map tree_of ts) es et 0 (length ts) l)

pub possible-returns-in-App-Var : goal.possible-returns-in-App-Var
possible-returns-in-App-Var t c =
    let n = c.in-App-Var.n in
    let et = ap tree_of c.in-App-Var.is-1 in
    λ prec fit l. c.occurs.ensures.1 (variable_above prec (tree_of c.args.s.now) n (subst (LpoGreater prec (tree_of c.args.s.now)) et l))

pub possible_each-possible-requires : goal.possible_each-possible-requires
possible_each-possible-requires t c =
    let a = member_size c.args.ts.now c.loop-j.j c.index-ts-j.result (grind arith) c.index-ts-j.is in
    (omega (arith, c.decreases, a), tt)

pub possible_each-returns-then-not-possible : goal.possible_each-returns-then-not-possible
possible_each-returns-then-not-possible t c =
    λ prec fit b. absurd (impossible (c.possible.ensures prec fit) c.if-not-possible.true (b c.loop-j.j (tree_of c.index-ts-j.result) (grind arith) (grind arith) (at_from c.args.ts.now c.loop-j.j c.index-ts-j.result (grind arith) c.index-ts-j.is)))

pub first_witness-possible-requires : goal.first_witness-possible-requires
first_witness-possible-requires t c =
    let a = member_size c.args.ss.now c.loop-k.k c.index-ss-k-in-loop-k.result (grind arith) c.index-ss-k-in-loop-k.is in
    (omega (arith, c.decreases, a), tt)

pub first_witness-loop-k-preserved : goal.first_witness-loop-k-preserved
first_witness-loop-k-preserved t c =
    let items = c.args.ss.now in
    let k = c.loop-k.k in
    λ prec fit. between_more (IsNoWitness prec (tree_of c.args.t.now)) (map tree_of items) c.args.from k (tree_of c.index-ss-k-in-loop-k.result) (at_from items k c.index-ss-k-in-loop-k.result (grind arith) c.index-ss-k-in-loop-k.is)
    ((λ q. no c.is_same.ensures c.if-is_same.false (ap tree_of (same_index items k c.index-ss-k.result c.index-ss-k-in-loop-k.result (grind arith) c.index-ss-k.is c.index-ss-k-in-loop-k.is) ∙ q)), impossible (c.possible.ensures prec fit) c.if-possible.false) (c.loop-k.invariant prec fit)

pub first_witness-returns : goal.first_witness-returns
first_witness-returns t c = λ prec fit k u h i a. let l = length-map c.args.ss.now tree_of in c.loop-k.invariant prec fit k u h (let w = at_within (map tree_of c.args.ss.now) k u a in omega (arith, l, w, i, c.loop-k-test.false)) a
