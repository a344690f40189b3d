use Rattle.std.proofs.Common.{◌≡◌, ◌<◌, ◌+◌, ◌++◌, ℕ, arith, subst, drop}
use Rattle.std.specs.Prelude.{decimal, map, replicate}
use Rattle.kb_term.specs.View.{tree_of}
use Rattle.kb_text.specs.Terms.{separator}
use Rattle.kb_text.proofs.PartRead.{IsPartRead, application_read, arguments_read, begun, bounded_some, cut_at, no_argument, no_arguments, no_closing, no_head, no_separator, not_begun, part_pushed}
use Rattle.kb_text.proofs.read.+read.Goals as goal

-- ---- the arguments

pub read_arguments-returns-then-not-begins_with : goal.read_arguments-returns-then-not-begins_with
read_arguments-returns-then-not-begins_with t c =
    let missing = not_begun c.separator_before.result (separator c.loop-i.i) c.split_at.result.1.now (drop c.loop-i.at c.args.text.now) c.begins_with.result c.split_at.ensures.back c.separator_before.ensures c.if-not-begins_with.true c.begins_with.ensures.1 in
    no_separator c.args.signature.now c.args.depth c.args.arity c.args.text.now (map tree_of c.loop-i.arguments.items) c.loop-i.i c.loop-i.at c.loop-i.invariant c.loop-i-test.true missing

pub read_arguments-returns-in_default : goal.read_arguments-returns-in_default
read_arguments-returns-in_default t c =
    let tail = c.split_at-in-loop-i.result.1.now in
    let begins = begun c.separator_before.result (separator c.loop-i.i) c.split_at.result.1.now (drop c.loop-i.at c.args.text.now) tail c.begins_with.result c.split_at.ensures.back c.separator_before.ensures c.if-not-begins_with.false c.begins_with.ensures.0 c.split_at-in-loop-i.ensures.back in
    no_argument c.args.signature.now c.args.depth c.args.arity c.args.text.now (map tree_of c.loop-i.arguments.items) c.loop-i.i c.loop-i.at tail c.loop-i.invariant c.loop-i-test.true begins (rw c.in_default.is at c.in_ok-argument.ensures)

pub read_arguments-loop-i-preserved : goal.read_arguments-loop-i-preserved
read_arguments-loop-i-preserved t c =
    let tail = c.split_at-in-loop-i.result.1.now in
    let begins = begun c.separator_before.result (separator c.loop-i.i) c.split_at.result.1.now (drop c.loop-i.at c.args.text.now) tail c.begins_with.result c.split_at.ensures.back c.separator_before.ensures c.if-not-begins_with.false c.begins_with.ensures.0 c.split_at-in-loop-i.ensures.back in
    part_pushed c.args.signature.now c.requires.names c.args.depth c.args.arity c.args.text.now c.loop-i.arguments.items c.push.new.self.items c.loop-i.i (c.loop-i.i + 1) c.loop-i.at tail c.in-Some.argument c.in-Some.size c.in_ok-push.ensures.items (omega arith) c.loop-i.invariant c.loop-i-test.true begins (rw c.in-Some.is at c.in_ok-argument.ensures)

pub read_arguments-returns-in-Some-closing_length :
    goal.read_arguments-returns-in-Some-closing_length
read_arguments-returns-in-Some-closing_length t c =
    let all : c.loop-i.i ≡ c.args.arity = omega arith in
    let read = subst (λ (i : ℕ). IsPartRead c.args.signature.now c.args.depth c.args.arity c.args.text.now (map tree_of c.loop-i.arguments.items) i c.loop-i.at) all c.loop-i.invariant in
    arguments_read c.args.signature.now c.args.text.now c.args.depth c.args.arity (map tree_of c.loop-i.arguments.items) c.loop-i.at c.in-Some-closing_length.size read (rw c.split_at-2.ensures.back at c.in-Some-closing_length.ensures)

pub read_arguments-returns-in-None : goal.read_arguments-returns-in-None
read_arguments-returns-in-None t c =
    let all : c.loop-i.i ≡ c.args.arity = omega arith in
    let read = subst (λ (i : ℕ). IsPartRead c.args.signature.now c.args.depth c.args.arity c.args.text.now (map tree_of c.loop-i.arguments.items) i c.loop-i.at) all c.loop-i.invariant in
    no_closing c.args.signature.now c.args.depth c.args.arity c.args.text.now (map tree_of c.loop-i.arguments.items) c.loop-i.at read (rw c.split_at-2.ensures.back at c.in-None.ensures)

-- ---- the term

pub read_from-returns-then-depth-eq0 : goal.read_from-returns-then-depth-eq0
read_from-returns-then-depth-eq0 t c = λ u rest b e k. let some = bounded_some c.args.signature.now c.args.depth u b in omega arith

pub read_from-returns-in_default-symbol_named : goal.read_from-returns-in_default-symbol_named
read_from-returns-in_default-symbol_named t c =
    let signature = c.args.signature.now in
    let name = c.split_at.result.0.now in
    let behind = c.split_at.result.1.now in
    let cut = cut_at c.args.text.now name behind c.name_length.result c.name_length.ensures.within c.split_at.ensures.front c.split_at.ensures.back c.name_length.ensures.name c.name_length.ensures.end in
    let none = subst (λ (p : ℕ). (n : ℕ) → n < 64 → ¬ (replicate p 120 ++ decimal (n + 1) ≡ name)) c.requires.prefix c.in_default.ensures in
    no_head signature c.requires.names c.args.text.now name behind c.name_length.result c.args.depth cut none c.in_default-symbol_named.ensures

pub read_from-returns-in-Some-2 : goal.read_from-returns-in-Some-2
read_from-returns-in-Some-2 t c =
    let signature = c.args.signature.now in
    let name = c.split_at.result.0.now in
    let behind = c.split_at.result.1.now in
    let cut = cut_at c.args.text.now name behind c.name_length.result c.name_length.ensures.within c.split_at.ensures.front c.split_at.ensures.back c.name_length.ensures.name c.name_length.ensures.end in
    let whole = application_read signature c.args.text.now name behind c.name_length.result c.args.depth c.in-Some-symbol_named.symbol.0 c.arity-arity.result (map tree_of c.read_arguments.new.arguments.items) c.in-Some-2.size cut (omega arith) c.in-Some-symbol_named.ensures.1 c.arity-arity.ensures (rw c.in-Some-2.is at c.in_ok-size.ensures) in
    rw c.new.ensures whole

pub read_from-returns-in-None : goal.read_from-returns-in-None
read_from-returns-in-None t c =
    let signature = c.args.signature.now in
    let name = c.split_at.result.0.now in
    let behind = c.split_at.result.1.now in
    let cut = cut_at c.args.text.now name behind c.name_length.result c.name_length.ensures.within c.split_at.ensures.front c.split_at.ensures.back c.name_length.ensures.name c.name_length.ensures.end in
    let none = subst (λ (p : ℕ). (n : ℕ) → n < 64 → ¬ (replicate p 120 ++ decimal (n + 1) ≡ name)) c.requires.prefix c.in_default.ensures in
    no_arguments signature c.requires.names c.args.text.now name behind c.name_length.result c.args.depth c.in-Some-symbol_named.symbol.0 c.arity-arity.result cut none c.in-Some-symbol_named.ensures.0 c.in-Some-symbol_named.ensures.1 c.arity-arity.ensures (rw c.in-None.is at c.in_ok-size.ensures)
