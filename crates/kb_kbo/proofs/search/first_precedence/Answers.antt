use Rattle.std.proofs.Common.{sym, ◌∙◌, ◌++◌, ap, subst, arith, List, ℕ, length, slice_index_or}
use Rattle.std.specs.Prelude.{Some}
use Rattle.std.proofs.lemmas.Bool.{false≢true}
use Rattle.kb_term.specs.First.{IsFirst}
use Rattle.kb_lpo.specs.Precedences.{precedences}
use Rattle.kb_lpo.specs.Search.{numbers}
use Rattle.kb_kbo.specs.Measures.{order_of}
use Rattle.kb_kbo.specs.Orders.{KboOrients}
use Rattle.kb_kbo.specs.Asking.{AreAskedAll}
use Rattle.kb_kbo.specs.Search.{IsPlaced, IsBetween}
use Rattle.kb_kbo.proofs.Placing.{whole_found, whole_none}
use Rattle.kb_kbo.proofs.search.first_precedence.Goals as goal

-- what is gathered fits each precedence with which the weights orient the rules
pub returns-then-not-gather : goal.returns-then-not-gather
returns-then-not-gather c = λ k d i o.
    let p = slice_index_or (precedences (length c.args.weights.now)) k d in
    let order = order_of c.args.weights.now p in
    let b : IsBetween order c.filled.result c.filled.result = λ f h. let e = c.filled.ensures f h in (omega arith, omega arith) in
    false≢true (sym c.if-not-gather.true ∙ (c.gather.ensures order b (subst (AreAskedAll order) (sym c.deref.ensures.value) (c.requires.asked order c.requires.few o).0) (c.requires.asked order c.requires.few o).1).0)

pub place-requires-clause-sound : goal.place-requires-clause-sound
place-requires-clause-sound c = λ rest o.
    let p = numbers c.new-symbols.result.items ++ rest in
    let order = order_of c.args.weights.now p in
    let b : IsBetween order c.filled.result c.filled.result = λ f h. let e = c.filled.ensures f h in (omega arith, omega arith) in
    (c.gather.ensures order b (subst (AreAskedAll order) (sym c.deref.ensures.value) (c.requires.asked order c.requires.few o).0) (c.requires.asked order c.requires.few o).1).1

pub returns-then-branch : goal.returns-then-branch
returns-then-branch c =
    let n = length c.args.weights.now in
    let Q : List ℕ → Type 0 = λ p. KboOrients (order_of c.args.weights.now p) c.args.rules.now in
    let s = subst (λ b. IsPlaced Q n n (numbers c.new-symbols.result.items) (numbers c.place.new.prefix.items) b) c.if-branch.true c.in_ok-place.ensures in
    subst (λ z. IsFirst Q (precedences n) (Some z)) (sym c.new.ensures) (whole_found Q n (numbers c.new-symbols.result.items) (numbers c.place.new.prefix.items) (ap numbers c.new-symbols.ensures.items) s)

pub returns : goal.returns
returns c =
    let n = length c.args.weights.now in
    let Q : List ℕ → Type 0 = λ p. KboOrients (order_of c.args.weights.now p) c.args.rules.now in
    let s = subst (λ b. IsPlaced Q n n (numbers c.new-symbols.result.items) (numbers c.place.new.prefix.items) b) c.if-branch.false c.in_ok-place.ensures in
    whole_none Q n (numbers c.new-symbols.result.items) (numbers c.place.new.prefix.items) (ap numbers c.new-symbols.ensures.items) s
