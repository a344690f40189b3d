use Rattle.std.proofs.Common.{ℕ, ◌+◌, ◌<◌, ◌≤◌, ◌≡◌, ◌++◌, ap, subst, arith, refl, below_more, All, [], length, length-append, map, get_or, Some}
use Rattle.std.specs.Prelude.{MatchOption, ◌==◌, slice_get}
use Rattle.std.proofs.lemmas.List.{length-map}
use Rattle.std.proofs.lemmas.List.Elements.{All-append, All-nil}
use Rattle.kb_term.specs.Rule.{Rule}
use Rattle.kb_overlap.specs.View.{overlap_of}
use Rattle.kb_rewrite.proofs.Indexing.{key_at, number_at}
use Rattle.kb_checker.specs.Partners.{IsPartner}
use Rattle.kb_checker.specs.Verdicts.{FailsFirst, Closes, FailsToClose, AreOverlapsOf}
use Rattle.kb_checker.specs.declared.joining.Failure.{Failure}
use Rattle.kb_checker.proofs.Firsts.{fails_behind, fails_within}
use Rattle.kb_checker.proofs.Partnership.{reach, none_between, none_behind, partner_inside, ready_at, rule_in, climbs}
use Rattle.kb_checker.proofs.RowsOfOverlaps.{few_overlaps, inner_more}
use Rattle.kb_checker.proofs.closing.close_row.Goals as goal

pub bounds-rules-i : goal.bounds-rules-i
bounds-rules-i c = omega (arith, c.requires.there, ap (length {A = Rule}) c.rules-rules.ensures)

pub partners-requires : goal.partners-requires
partners-requires c = (ready_at c.args.system.now c.rules-rules.result.now c.args.i c.index-rules-i.result c.requires.ready c.rules-rules.ensures (omega (arith, c.requires.there, ap (length {A = Rule}) c.rules-rules.ensures)) c.index-rules-i.is).arguments

pub loop-k-init : goal.loop-k-init
loop-k-init c = (0, [], refl, All-nil (Closes c.args.system.now), omega arith, omega arith, omega arith, λ m l. absurd (omega (arith, l)), λ m l n. omega arith)

pub bounds-rules-j : goal.bounds-rules-j
bounds-rules-j c =
    let rules = c.args.system.now in
    let keys = c.in_ok-keys.keys.items in
    let key = c.index.result.now in
    let partner = (c.in_ok-keys.ensures.keys key).0 (key_at keys c.loop-k.k key (omega (arith, c.loop-k-test.true, c.len-k-end.ensures)) c.index.ensures) in
    omega (arith, partner_inside (length rules) rules c.args.index.now c.index-rules-i.result.left key c.requires.index partner, ap (length {A = Rule}) c.rules-rules.ensures)

pub overlaps-requires-clause-outer_variables : goal.overlaps-requires-clause-outer_variables
overlaps-requires-clause-outer_variables c = (ready_at c.args.system.now c.rules-rules.result.now c.args.i c.index-rules-i.result c.requires.ready c.rules-rules.ensures (omega (arith, c.requires.there, ap (length {A = Rule}) c.rules-rules.ensures)) c.index-rules-i.is).variables

pub overlaps-requires-clause-inner_variables : goal.overlaps-requires-clause-inner_variables
overlaps-requires-clause-inner_variables c =
    let rules = c.args.system.now in
    let keys = c.in_ok-keys.keys.items in
    let key = c.index.result.now in
    let partner = (c.in_ok-keys.ensures.keys key).0 (key_at keys c.loop-k.k key (omega (arith, c.loop-k-test.true, c.len-k-end.ensures)) c.index.ensures) in
    let room : key < length c.rules-rules.result.now = omega (arith, partner_inside (length rules) rules c.args.index.now c.index-rules-i.result.left key c.requires.index partner, ap (length {A = Rule}) c.rules-rules.ensures) in
    (ready_at rules c.rules-rules.result.now key c.index-rules-j.result c.requires.ready c.rules-rules.ensures room c.index-rules-j.is).variables

pub overflow_add-result : goal.overflow_add-result
overflow_add-result c =
    let rules = c.args.system.now in
    let outer = c.index-rules-i.result in
    let key = c.index.result.now in
    let ready = ready_at rules c.rules-rules.result.now c.args.i outer c.requires.ready c.rules-rules.ensures (omega (arith, c.requires.there, ap (length {A = Rule}) c.rules-rules.ensures)) c.index-rules-i.is in
    let found = map overlap_of c.in_ok-found.found.items in
    let few = few_overlaps outer c.index-rules-j.result (c.args.i == key) found c.in_ok-found.ensures in
    let first = subst (λ o. MatchOption o (All (Closes rules) (map overlap_of c.deref.result.now)) (λ (f : Failure × ℕ). FailsFirst (Closes rules) (FailsToClose rules f.0) (map overlap_of c.deref.result.now) f.1)) c.in-Some.is c.in_ok-first_open.ensures in
    let within = fails_within (Closes rules) (FailsToClose rules c.in-Some.failure) (map overlap_of c.deref.result.now) c.in-Some.n first in
    omega (arith, few, ready.size, within, ap (λ xs. length (map overlap_of xs)) c.deref.ensures.value, c.loop-k.invariant.5, c.loop-k.invariant.6, c.requires.room, c.requires.few, c.requires.there)

pub returns-in-Some : goal.returns-in-Some
returns-in-Some c =
    let rules = c.args.system.now in
    let i = c.args.i in
    let outer = c.index-rules-i.result in
    let inner = c.index-rules-j.result in
    let keys = c.in_ok-keys.keys.items in
    let key = c.index.result.now in
    let k = c.loop-k.k in
    let inv = c.loop-k.invariant in
    let os = inv.1 in
    let room_k : k < length keys = omega (arith, c.loop-k-test.true, c.len-k-end.ensures) in
    let here : key ≡ get_or keys k 0 = number_at keys k key room_k c.index.ensures in
    let partner : IsPartner c.args.index.now outer.left key = (c.in_ok-keys.ensures.keys key).0 (key_at keys k key room_k c.index.ensures) in
    let inside : key < length rules = partner_inside (length rules) rules c.args.index.now outer.left key c.requires.index partner in
    let at : slice_get rules i ≡ Some outer = rule_in rules c.rules-rules.result.now i outer c.rules-rules.ensures (omega (arith, c.requires.there, ap (length {A = Rule}) c.rules-rules.ensures)) c.index-rules-i.is in
    let there : slice_get rules key ≡ Some inner = rule_in rules c.rules-rules.result.now key inner c.rules-rules.ensures (omega (arith, inside, ap (length {A = Rule}) c.rules-rules.ensures)) c.index-rules-j.is in
    let up : inv.0 ≤ key = omega (arith, inv.8 k (omega arith) room_k, here) in
    let reached = reach rules c.args.index.now i inv.0 key outer os c.requires.index at up (omega (arith, inside)) (none_between c.args.index.now outer.left keys k inv.0 key c.in_ok-keys.ensures.keys c.in_ok-keys.ensures.rising inv.7 here) inv.2 in
    let found = map overlap_of c.in_ok-found.found.items in
    let failure = c.in-Some.failure in
    let first = subst (λ o. MatchOption o (All (Closes rules) (map overlap_of c.deref.result.now)) (λ (f : Failure × ℕ). FailsFirst (Closes rules) (FailsToClose rules f.0) (map overlap_of c.deref.result.now) f.1)) c.in-Some.is c.in_ok-first_open.ensures in
    let fails = subst (λ xs. FailsFirst (Closes rules) (FailsToClose rules failure) (map overlap_of xs) c.in-Some.n) c.deref.ensures.value first in
    let two : AreOverlapsOf rules i key found = (outer, inner, at, there, c.in_ok-found.ensures) in (
      key + 1,
      os ++ found,
      length os + c.in-Some.n,
      inner_more rules i key os found reached two,
      fails_behind (Closes rules) (FailsToClose rules failure) os found c.in-Some.n inv.3 fails,
      omega (arith, inv.4),
    )

pub loop-k-preserved : goal.loop-k-preserved
loop-k-preserved c =
    let rules = c.args.system.now in
    let i = c.args.i in
    let outer = c.index-rules-i.result in
    let inner = c.index-rules-j.result in
    let keys = c.in_ok-keys.keys.items in
    let key = c.index.result.now in
    let k = c.loop-k.k in
    let inv = c.loop-k.invariant in
    let os = inv.1 in
    let room_k : k < length keys = omega (arith, c.loop-k-test.true, c.len-k-end.ensures) in
    let here : key ≡ get_or keys k 0 = number_at keys k key room_k c.index.ensures in
    let partner : IsPartner c.args.index.now outer.left key = (c.in_ok-keys.ensures.keys key).0 (key_at keys k key room_k c.index.ensures) in
    let inside : key < length rules = partner_inside (length rules) rules c.args.index.now outer.left key c.requires.index partner in
    let ready = ready_at rules c.rules-rules.result.now i outer c.requires.ready c.rules-rules.ensures (omega (arith, c.requires.there, ap (length {A = Rule}) c.rules-rules.ensures)) c.index-rules-i.is in
    let at : slice_get rules i ≡ Some outer = rule_in rules c.rules-rules.result.now i outer c.rules-rules.ensures (omega (arith, c.requires.there, ap (length {A = Rule}) c.rules-rules.ensures)) c.index-rules-i.is in
    let there : slice_get rules key ≡ Some inner = rule_in rules c.rules-rules.result.now key inner c.rules-rules.ensures (omega (arith, inside, ap (length {A = Rule}) c.rules-rules.ensures)) c.index-rules-j.is in
    let up : inv.0 ≤ key = omega (arith, inv.8 k (omega arith) room_k, here) in
    let reached = reach rules c.args.index.now i inv.0 key outer os c.requires.index at up (omega (arith, inside)) (none_between c.args.index.now outer.left keys k inv.0 key c.in_ok-keys.ensures.keys c.in_ok-keys.ensures.rising inv.7 here) inv.2 in
    let found = map overlap_of c.in_ok-found.found.items in
    let few = few_overlaps outer inner (i == key) found c.in_ok-found.ensures in
    let first = subst (λ o. MatchOption o (All (Closes rules) (map overlap_of c.deref.result.now)) (λ (f : Failure × ℕ). FailsFirst (Closes rules) (FailsToClose rules f.0) (map overlap_of c.deref.result.now) f.1)) c.in-None.is c.in_ok-first_open.ensures in
    let close = subst (λ xs. All (Closes rules) (map overlap_of xs)) c.deref.ensures.value first in
    let two : AreOverlapsOf rules i key found = (outer, inner, at, there, c.in_ok-found.ensures) in (
      key + 1,
      os ++ found,
      inner_more rules i key os found reached two,
      All-append (Closes rules) os found inv.3 close,
      omega (arith, inv.4, length-append os found, length-map c.in_ok-found.found.items overlap_of, c.len.ensures),
      omega (arith, inv.5, up, few, ready.size, length-map c.in_ok-found.found.items overlap_of, c.len.ensures),
      omega (arith, inside),
      below_more _ _ (λ m l. omega (arith, inv.7 m l, up)) (omega (arith, here)),
      λ m l n. omega (arith, climbs keys c.in_ok-keys.ensures.rising k m (omega (arith, l)) n, here),
    )

pub returns : goal.returns
returns c =
    let rules = c.args.system.now in
    let i = c.args.i in
    let outer = c.index-rules-i.result in
    let keys = c.in_ok-keys.keys.items in
    let inv = c.loop-k.invariant in
    let at : slice_get rules i ≡ Some outer = rule_in rules c.rules-rules.result.now i outer c.rules-rules.ensures (omega (arith, c.requires.there, ap (length {A = Rule}) c.rules-rules.ensures)) c.index-rules-i.is in
    let passed = λ (m : ℕ) (l : m < length keys). inv.7 m (omega (arith, l, c.loop-k-test.false, c.len-k-end.ensures)) in (
      inv.1,
      reach rules c.args.index.now i inv.0 (length rules) outer inv.1 c.requires.index at inv.6 (omega arith) (λ j l m. none_behind c.args.index.now outer.left keys inv.0 c.in_ok-keys.ensures.keys passed j l) inv.2,
      inv.3,
      inv.4,
      omega (arith, inv.5, inv.6, c.requires.few),
    )
