use Rattle.std.proofs.Common.{ap, ◌∙◌, subst, ◌+◌, ◌≤◌, ◌⊎◌, inl, inr, ⊎_elim, arith, map, ◌≡◌, length}
use Rattle.std.specs.Prelude.{IsSomeAnd, Option}
use Rattle.std.proofs.lemmas.Bool.{false≢true, cases_lt}
use Rattle.kb_term.specs.View.{tree_of}
use Rattle.kb_term.specs.Pair.{place_in}
use Rattle.kb_lpo.specs.PathOrder.{LpoGreater}
use Rattle.kb_lpo.specs.Search.{Fits}
use Rattle.kb_lpo.proofs.Places.{at_from}
use Rattle.kb_lpo.proofs.Exact.{variable_above}
use Rattle.kb_lpo.proofs.LpoDecides.{lpo_decides}
use Rattle.kb_lpo.proofs.Cases.{each_above, witness_needed, witness_after_difference, witness_after_end, witness_here_or_behind, no_witness_at_end}
use Rattle.kb_lpo.proofs.Answering.{ends, form, impossible, member_size, part_smaller, no, same_index}
use Rattle.kb_lpo.proofs.needs.+force.Goals as goal

pub force-force-difference-requires : goal.force-force-difference-requires
force-force-difference-requires t c =
    let a = part_smaller c.args.s.now c.in-App-App.f c.in-App-App.front c.items-ss.result.now c.agreement-n.result c.index-ss-n.result c.in-App-App.is-0 c.items-ss.ensures (grind arith) c.index-ss-n.is in
    let b = part_smaller c.args.t.now c.in-App-App.g c.in-App-App.back c.items-ts.result.now c.agreement-n.result c.index-ts-n.result c.in-App-App.is-1 c.items-ts.ensures (grind arith) c.index-ts-n.is in
    (omega (arith, c.decreases, a, b), tt)

pub force-returns-else-occurs : goal.force-returns-else-occurs
force-returns-else-occurs t c =
    let n = c.in-App-Var.n in
    let et = ap tree_of c.in-App-Var.is-1 in
    λ prec fit l. impossible c.occurs.ensures.1 c.if-occurs.false (variable_above prec (tree_of c.args.s.now) n (subst (LpoGreater prec (tree_of c.args.s.now)) et l))

pub force-returns-then-n-ts : goal.force-returns-then-n-ts
force-returns-then-n-ts t c =
    let ss = c.items-ss.result.now in
    let ts = c.items-ts.result.now in
    let n = c.agreement-n.result in
    let es = form c.args.s.now c.in-App-App.f c.in-App-App.front ss c.in-App-App.is-0 c.items-ss.ensures in
    let et = form c.args.t.now c.in-App-App.g c.in-App-App.back ts c.in-App-App.is-1 c.items-ts.ensures in
    let e : c.in-App-App.f.0 ≡ c.in-App-App.g.0 = grind arith in
    let u = tree_of c.index-ss-n.result in
    let v = tree_of c.index-ts-n.result in
    λ prec fit l.
    ⊎_elim
    (λ up. c.either.ensures.first prec (c.force_each-first.ensures prec (c.force-difference.ensures prec fit up) (each_above prec (tree_of c.args.s.now) (tree_of c.args.t.now) c.in-App-App.f.0 c.in-App-App.g.0 (map tree_of ss) (map tree_of ts) es et (n + 1) (length ts) l)))
    (λ not. c.either.ensures.second prec (c.force_witness.ensures prec fit (witness_after_difference prec (tree_of c.args.s.now) (tree_of c.args.t.now) c.in-App-App.f.0 c.in-App-App.g.0 (map tree_of ss) (map tree_of ts) es et n u v e c.agreement-n.ensures (at_from ss n c.index-ss-n.result (grind arith) c.index-ss-n.is) (at_from ts n c.index-ts-n.result (grind arith) c.index-ts-n.is) not l)))
    (lpo_decides prec u v)

pub force-returns-else-n-ss : goal.force-returns-else-n-ss
force-returns-else-n-ss t c =
    let ss = c.items-ss.result.now in
    let ts = c.items-ts.result.now in
    let n = c.agreement-n.result in
    let es = form c.args.s.now c.in-App-App.f c.in-App-App.front ss c.in-App-App.is-0 c.items-ss.ensures in
    let et = form c.args.t.now c.in-App-App.g c.in-App-App.back ts c.in-App-App.is-1 c.items-ts.ensures in
    let e : c.in-App-App.f.0 ≡ c.in-App-App.g.0 = grind arith in
    let end : (length (map tree_of ss) ≤ n) ⊎ (length (map tree_of ts) ≤ n) = ends ss ts n (grind arith) in
    λ prec fit l. c.force_witness-then-eq.ensures prec fit (witness_after_end prec (tree_of c.args.s.now) (tree_of c.args.t.now) c.in-App-App.f.0 c.in-App-App.g.0 (map tree_of ss) (map tree_of ts) es et n e c.agreement-n.ensures end l)

pub force-returns-then-is_from : goal.force-returns-then-is_from
force-returns-then-is_from t c =
    let ss = c.items-ss.result.now in
    let ts = c.items-ts.result.now in
    let es = form c.args.s.now c.in-App-App.f c.in-App-App.front ss c.in-App-App.is-0 c.items-ss.ensures in
    let et = form c.args.t.now c.in-App-App.g c.in-App-App.back ts c.in-App-App.is-1 c.items-ts.ensures in
    λ prec fit l. c.force_each.ensures prec fit (each_above prec (tree_of c.args.s.now) (tree_of c.args.t.now) c.in-App-App.f.0 c.in-App-App.g.0 (map tree_of ss) (map tree_of ts) es et 0 (length ts) l)

pub force-returns-then-is_from-2 : goal.force-returns-then-is_from-2
force-returns-then-is_from-2 t c =
    let ss = c.items-ss.result.now in
    let ts = c.items-ts.result.now in
    let es = form c.args.s.now c.in-App-App.f c.in-App-App.front ss c.in-App-App.is-0 c.items-ss.ensures in
    let et = form c.args.t.now c.in-App-App.g c.in-App-App.back ts c.in-App-App.is-1 c.items-ts.ensures in
    let d : ¬ (c.in-App-App.f.0 ≡ c.in-App-App.g.0) = λ q. false≢true (grind arith) in
    λ prec fit l.
    let up = c.is_from-else-is_from.ensures c.if-is_from-2.true prec fit in
    c.force_witness-then-is_from-2.ensures prec fit (witness_needed prec (tree_of c.args.s.now) (tree_of c.args.t.now) c.in-App-App.f.0 c.in-App-App.g.0 (map tree_of ss) (map tree_of ts) es et d (λ a. omega (arith, a, up)) l)

pub force-returns-else-is_from-2 : goal.force-returns-else-is_from-2
force-returns-else-is_from-2 t c =
    let ss = c.items-ss.result.now in
    let ts = c.items-ts.result.now in
    let f = c.in-App-App.f.0 in
    let g = c.in-App-App.g.0 in
    let es = form c.args.s.now c.in-App-App.f c.in-App-App.front ss c.in-App-App.is-0 c.items-ss.ensures in
    let et = form c.args.t.now c.in-App-App.g c.in-App-App.back ts c.in-App-App.is-1 c.items-ts.ensures in
    let d : ¬ (c.in-App-App.f.0 ≡ c.in-App-App.g.0) = λ q. false≢true (grind arith) in
    λ prec fit l.
    ⊎_elim
    (λ up. c.either-else-is_from-2.ensures.first prec (c.force_above-first.ensures prec fit (omega (arith, up)) (each_above prec (tree_of c.args.s.now) (tree_of c.args.t.now) f g (map tree_of ss) (map tree_of ts) es et 0 (length ts) l)))
    (λ not. c.either-else-is_from-2.ensures.second prec (c.force_below.ensures prec fit not (witness_needed prec (tree_of c.args.s.now) (tree_of c.args.t.now) f g (map tree_of ss) (map tree_of ts) es et d (λ a. omega (arith, a, not)) l)))
    (cases_lt (place_in prec f) (place_in prec g))

pub force_each-force-requires : goal.force_each-force-requires
force_each-force-requires t c =
    let a = member_size c.args.ts.now c.loop-j.j c.index-ts-j.result (grind arith) c.index-ts-j.is in
    (omega (arith, c.decreases, a), tt)

pub force_each-returns-in_err-more-2 : goal.force_each-returns-in_err-more-2
force_each-returns-in_err-more-2 t c =
    λ prec first b. absurd (subst (λ (o : Option _). IsSomeAnd o (λ more. Fits more prec)) c.in_err-more-2.was (c.force.ensures prec (c.loop-j.invariant prec first b) (b c.loop-j.j (tree_of c.index-ts-j.result) (grind arith) (grind arith) (at_from c.args.ts.now c.loop-j.j c.index-ts-j.result (grind arith) c.index-ts-j.is))))

pub force_each-loop-j-preserved : goal.force_each-loop-j-preserved
force_each-loop-j-preserved t c =
    λ prec first b. subst (λ (o : Option _). IsSomeAnd o (λ more. Fits more prec)) c.in_ok-more-2.was (c.force.ensures prec (c.loop-j.invariant prec first b) (b c.loop-j.j (tree_of c.index-ts-j.result) (grind arith) (grind arith) (at_from c.args.ts.now c.loop-j.j c.index-ts-j.result (grind arith) c.index-ts-j.is)))

pub force_witness-force_possible-here-requires : goal.force_witness-force_possible-here-requires
force_witness-force_possible-here-requires t c =
    let a = member_size c.args.ss.now c.loop-k.k c.index-ss-k-in-loop-k.result (grind arith) c.index-ss-k-in-loop-k.is in
    (omega (arith, c.decreases, a), tt)

pub force_witness-loop-k-preserved : goal.force_witness-loop-k-preserved
force_witness-loop-k-preserved t c =
    let items = c.args.ss.now in
    let k = c.loop-k.k in
    let u = c.index-ss-k-in-loop-k.result in
    λ prec fit w. ⊎_elim
    (λ m. inl (c.either-shared.ensures.first prec m))
    (λ m. ⊎_elim
    (λ behind. inr (omega (arith, m.0), behind))
    (λ here. ⊎_elim
    (λ e. absurd (no c.is_same.ensures c.if-is_same.false (ap tree_of (same_index items k c.index-ss-k.result u (grind arith) c.index-ss-k.is c.index-ss-k-in-loop-k.is) ∙ e)))
    (λ up. inl (c.either-shared.ensures.second prec (c.force_possible-here.ensures prec fit up)))
    here)
    (witness_here_or_behind prec (tree_of c.args.t.now) (map tree_of items) k (tree_of u) (at_from items k u (grind arith) c.index-ss-k-in-loop-k.is) m.1))
    (c.loop-k.invariant prec fit w)

pub force_witness-returns : goal.force_witness-returns
force_witness-returns t c =
    λ prec fit w. ⊎_elim (λ m. m) (λ m. absurd (no_witness_at_end prec (tree_of c.args.t.now) c.args.ss.now c.loop-k.k (omega (arith, m.0)) m.1)) (c.loop-k.invariant prec fit w)
