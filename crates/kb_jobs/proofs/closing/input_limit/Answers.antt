use Rattle.std.proofs.Common.{ℕ, suc, ◌≡◌, ◌+◌, ◌<◌, sym, subst, List, length, take, Contains, arith}
use Rattle.kb_term.specs.Tree.{Tree}
use Rattle.kb_term.specs.View.{tree_of}
use Rattle.kb_term.specs.declared.term.Term.{Term}
use Rattle.mkb_model.specs.Proposals.{HaveForms, PassesFirst}
use Rattle.kb_jobs.specs.Rules.{listed}
use Rattle.kb_jobs.specs.Closing.{AreForms, inputs_of}
use Rattle.kb_jobs.specs.declared.closing.Forms.{Forms}
use Rattle.kb_jobs.proofs.Reduced.{read_at}
use Rattle.kb_jobs.proofs.Adding.{take_next, take_length, one_more, stops_there}
use Rattle.std.proofs.lemmas.List.{length-map}
use Rattle.kb_lemmas.proofs.Lists.{get_map}
use Rattle.kb_jobs.proofs.closing.input_limit.Goals as goal

abbrev both_trees : Term × Term → Tree × Tree
both_trees e = (tree_of e.0, tree_of e.1)

pub returns-in-Stop : goal.returns-in-Stop
returns-in-Stop c =
    let s = c.args.s.now in
    let L = listed s.rules in
    let i = c.loop-i.i in
    let e = c.index-input.result.now in
    let inside : i < length s.inputs.items = omega (arith, c.len-i-end.ensures, c.loop-i-test.true) in
    let there = get_map both_trees s.inputs.items i e (read_at s.inputs.items i e inside c.index-input.ensures) in
    stops_there (HaveForms L) (λ x. PassesFirst L x c.in-Stop.reason) (inputs_of s) i (both_trees e) there c.loop-i.invariant (subst {A = Forms} (AreForms L (tree_of e.0) (tree_of e.1)) c.in-Stop.is c.in_ok-reason.ensures)

pub loop-i-preserved : goal.loop-i-preserved
loop-i-preserved c =
    let s = c.args.s.now in
    let L = listed s.rules in
    let i = c.loop-i.i in
    let e = c.index-input.result.now in
    let inside : i < length s.inputs.items = omega (arith, c.len-i-end.ensures, c.loop-i-test.true) in
    let there = get_map both_trees s.inputs.items i e (read_at s.inputs.items i e inside c.index-input.ensures) in
    let made = subst {A = Forms} (AreForms L (tree_of e.0) (tree_of e.1)) c.in-Both.is c.in_ok-reason.ensures in
    let next : suc i ≡ i + 1 = omega arith in
    subst {A = ℕ} (λ n. (x : Tree × Tree) → Contains (take n (inputs_of s)) x → HaveForms L x) next
    (subst {A = List (Tree × Tree)} (λ z. (x : Tree × Tree) → Contains z x → HaveForms L x) (sym (take_next (inputs_of s) i (both_trees e) there)) (one_more (HaveForms L) (take i (inputs_of s)) (both_trees e) c.loop-i.invariant ((tree_of c.in-Both.field-0, made.0), (tree_of c.in-Both.field-1, made.1))))

pub returns : goal.returns
returns c =
    let s = c.args.s.now in
    let all : take c.loop-i.i (inputs_of s) ≡ inputs_of s = take_length (inputs_of s) c.loop-i.i (omega (arith, length-map s.inputs.items both_trees, c.len-i-end.ensures, c.loop-i-test.false)) in
    subst {A = List (Tree × Tree)} (λ z. (x : Tree × Tree) → Contains z x → HaveForms (listed s.rules) x) all c.loop-i.invariant
