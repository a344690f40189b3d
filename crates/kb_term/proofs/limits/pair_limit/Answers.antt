use Rattle.std.proofs.Common.{◌≡◌, ℕ, ◌<◌, ◌≤◌, arith, length, refl, ap, true, false}
use Rattle.std.specs.Prelude.{nat_lt}
use Rattle.std.proofs.lemmas.List.{length-take}
use Rattle.kb_term.specs.Tree.{tree_size, tree_depth}
use Rattle.kb_term.specs.Pair.{variables_of_pair, ArePairWithin}
use Rattle.kb_term.specs.View.{tree_of}
use Rattle.kb_term.proofs.limits.pair_limit.Goals as goal

less : (m n : ℕ) → m < n → nat_lt m n ≡ true
less m n h = grind arith

not_less : (m n : ℕ) → n ≤ m → nat_lt m n ≡ false
not_less m n h = grind arith

many : (c : goal.Then-len-gt64) → 64 < length (variables_of_pair (tree_of c.args.a.now) (tree_of c.args.b.now))
many c = omega (arith, c.if-len-gt64.true, c.len.ensures.count, ap (length {A = ℕ}) c.of.ensures, length-take 65 (variables_of_pair (tree_of c.args.a.now) (tree_of c.args.b.now)))

pub returns-then-len-gt64-clause-limit : goal.returns-then-len-gt64-clause-limit
returns-then-len-gt64-clause-limit c =
    let s = tree_of c.args.a.now in
    let t = tree_of c.args.b.now in
    let a = not_less 512 (tree_size s) (omega (arith, c.size_up_to.ensures, c.if-size_up_to-gt-MAX_SIZE.false)) in
    let b = not_less 512 (tree_size t) (omega (arith, c.size_up_to-else-size_up_to-gt-MAX_SIZE.ensures, c.if-size_up_to-gt-MAX_SIZE-2.false)) in
    let d = not_less 64 (tree_depth s) (omega (arith, c.depth_up_to.ensures, c.if-depth_up_to-gt-MAX_DEPTH.false)) in
    let e = not_less 64 (tree_depth t) (omega (arith, c.depth_up_to-else-depth_up_to-gt-MAX_DEPTH.ensures, c.if-depth_up_to-gt-MAX_DEPTH-2.false)) in
    let f = less 64 (length (variables_of_pair s t)) (many c) in
    rw (a, b, d, e, f) refl

pub returns-then-len-gt64-clause-within : goal.returns-then-len-gt64-clause-within
returns-then-len-gt64-clause-within c = ((λ h. absurd (cc)), (λ w. absurd (omega (arith, many c, w.few))))

within : (c : goal.Else-len-gt64) → ArePairWithin (tree_of c.args.a.now) (tree_of c.args.b.now)
within c = record {
  first = record { size = omega (arith, c.size_up_to.ensures, c.if-size_up_to-gt-MAX_SIZE.false); depth = omega (arith, c.depth_up_to.ensures, c.if-depth_up_to-gt-MAX_DEPTH.false) };
  second = record { size = omega (arith, c.size_up_to-else-size_up_to-gt-MAX_SIZE.ensures, c.if-size_up_to-gt-MAX_SIZE-2.false); depth = omega (arith, c.depth_up_to-else-depth_up_to-gt-MAX_DEPTH.ensures, c.if-depth_up_to-gt-MAX_DEPTH-2.false) };
  few = omega (arith, c.if-len-gt64.false, c.len.ensures.count, ap (length {A = ℕ}) c.of.ensures, length-take 65 (variables_of_pair (tree_of c.args.a.now) (tree_of c.args.b.now)));
}

pub returns-clause-limit : goal.returns-clause-limit
returns-clause-limit c =
    let s = tree_of c.args.a.now in
    let t = tree_of c.args.b.now in
    let w = within c in
    let a = not_less 512 (tree_size s) w.first.size in
    let b = not_less 512 (tree_size t) w.second.size in
    let d = not_less 64 (tree_depth s) w.first.depth in
    let e = not_less 64 (tree_depth t) w.second.depth in
    let f = not_less 64 (length (variables_of_pair s t)) w.few in
    rw (a, b, d, e, f) refl

pub returns-clause-within : goal.returns-clause-within
returns-clause-within c = ((λ h. within c), (λ w. refl))
