use Rattle.std.proofs.Common.{Bool, true, false, ℕ, List, ◌≡◌, [], sym, ◌∙◌, ap, subst, subst₂, ◌++◌}
use Rattle.std.proofs.lemmas.Bool.{false≢true}
use Rattle.std.specs.Prelude.{Some, None}
use Rattle.kb_lpo.specs.Precedences.{precedences}
use Rattle.kb_term.specs.First.{IsFirst}
use Rattle.kb_lpo.specs.Search.{numbers, IsFloor, IsSearched, IsTried}
use Rattle.kb_lpo.specs.Precedences.{LpoOrients}
use Rattle.kb_term.specs.Rule.{Rule}
use Rattle.kb_lpo.proofs.First.{whole_found, whole_none}
use Rattle.kb_lpo.proofs.search.search_above.Goals as goal

-- the try that found nothing has left the prefix empty
still_empty : (rules : List Rule) (count : ℕ) (xs ys : List ℕ) (b : Bool) → b ≡ false → xs ≡ [] → IsTried rules count count xs ys b → ys ≡ []
still_empty rules count xs ys true e n h = absurd (false≢true (sym e))
still_empty rules count xs ys false e n h = h ∙ n

pub search_or_fit-requires : goal.search_or_fit-requires
search_or_fit-requires c =
    let rules = c.args.rules.now in
    let n = c.count-count.result in
    let ys = numbers c.try_first.new.prefix.items in
    let xs = numbers c.try_first-2.new.prefix.items in
    let before : ys ≡ [] = still_empty rules n (numbers c.new-prefix.result.items) ys c.in_ok-try_first.field-0 c.if-branch.false (ap numbers c.new-prefix.ensures.items) c.in_ok-try_first.ensures in
    let empty : xs ≡ [] = still_empty rules n ys xs c.in_ok-try_first-2.field-0 c.if-branch-2.false before c.in_ok-try_first-2.ensures in
    record {
      sound = λ rest o. let p = xs ++ rest in (c.propagate.ensures p (c.force_all.ensures p (c.new-known.ensures p) o).1 o).1;
      bound = subst₂ (λ k xs. IsFloor rules k k xs (numbers c.args.floor.now)) (sym c.count-count.ensures.count) (sym empty) c.requires.bound;
    }

pub returns-then-branch : goal.returns-then-branch
returns-then-branch c =
    let rules = c.args.rules.now in
    let n = c.count-count.result in
    let s = subst (λ b. IsTried rules n n (numbers c.new-prefix.result.items) (numbers c.try_first.new.prefix.items) b) c.if-branch.true c.in_ok-try_first.ensures in
    subst (λ z. IsFirst (λ prec. LpoOrients prec rules) (precedences z) (Some c.new.result)) c.count-count.ensures.count (subst (λ z. IsFirst (λ prec. LpoOrients prec rules) (precedences n) (Some z)) (sym c.new.ensures) (whole_found rules n (numbers c.new-prefix.result.items) (numbers c.try_first.new.prefix.items) (ap numbers c.new-prefix.ensures.items) s))

pub returns-then-branch-2 : goal.returns-then-branch-2
returns-then-branch-2 c =
    let rules = c.args.rules.now in
    let n = c.count-count.result in
    let ys = numbers c.try_first.new.prefix.items in
    let before : ys ≡ [] = still_empty rules n (numbers c.new-prefix.result.items) ys c.in_ok-try_first.field-0 c.if-branch.false (ap numbers c.new-prefix.ensures.items) c.in_ok-try_first.ensures in
    let s = subst (λ b. IsTried rules n n ys (numbers c.try_first-2.new.prefix.items) b) c.if-branch-2.true c.in_ok-try_first-2.ensures in
    subst (λ z. IsFirst (λ prec. LpoOrients prec rules) (precedences z) (Some c.new-then-branch-2.result)) c.count-count.ensures.count (subst (λ z. IsFirst (λ prec. LpoOrients prec rules) (precedences n) (Some z)) (sym c.new-then-branch-2.ensures) (whole_found rules n ys (numbers c.try_first-2.new.prefix.items) before s))

pub returns-then-branch-3 : goal.returns-then-branch-3
returns-then-branch-3 c =
    let rules = c.args.rules.now in
    let n = c.count-count.result in
    let ys = numbers c.try_first.new.prefix.items in
    let xs = numbers c.try_first-2.new.prefix.items in
    let before : ys ≡ [] = still_empty rules n (numbers c.new-prefix.result.items) ys c.in_ok-try_first.field-0 c.if-branch.false (ap numbers c.new-prefix.ensures.items) c.in_ok-try_first.ensures in
    let empty : xs ≡ [] = still_empty rules n ys xs c.in_ok-try_first-2.field-0 c.if-branch-2.false before c.in_ok-try_first-2.ensures in
    let s = subst (λ b. IsSearched rules n n xs (numbers c.search_or_fit.new.prefix.items) b) c.if-branch-3.true c.in_ok-search_or_fit.ensures in
    subst (λ z. IsFirst (λ prec. LpoOrients prec rules) (precedences z) (Some c.new-then-branch-3.result)) c.count-count.ensures.count (subst (λ z. IsFirst (λ prec. LpoOrients prec rules) (precedences n) (Some z)) (sym c.new-then-branch-3.ensures) (whole_found rules n xs (numbers c.search_or_fit.new.prefix.items) empty s))

pub returns : goal.returns
returns c =
    let rules = c.args.rules.now in
    let n = c.count-count.result in
    let ys = numbers c.try_first.new.prefix.items in
    let xs = numbers c.try_first-2.new.prefix.items in
    let before : ys ≡ [] = still_empty rules n (numbers c.new-prefix.result.items) ys c.in_ok-try_first.field-0 c.if-branch.false (ap numbers c.new-prefix.ensures.items) c.in_ok-try_first.ensures in
    let empty : xs ≡ [] = still_empty rules n ys xs c.in_ok-try_first-2.field-0 c.if-branch-2.false before c.in_ok-try_first-2.ensures in
    let s = subst (λ b. IsSearched rules n n xs (numbers c.search_or_fit.new.prefix.items) b) c.if-branch-3.false c.in_ok-search_or_fit.ensures in
    subst (λ z. IsFirst (λ prec. LpoOrients prec rules) (precedences z) None) c.count-count.ensures.count (whole_none rules n xs (numbers c.search_or_fit.new.prefix.items) empty s)
