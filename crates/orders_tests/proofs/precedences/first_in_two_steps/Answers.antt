use Rattle.std.proofs.Common.{List, ℕ, length, subst, take, drop, take-append-drop}
use Rattle.std.proofs.lemmas.List.Elements.{All-contains_itself, Contains-append_left}
use Rattle.std.specs.Prelude.{All, Contains, slice_index_or}
use Rattle.kb_term.specs.First.{IsFirst}
use Rattle.kb_term.specs.Rule.{Rule}
use Rattle.kb_lpo.specs.Precedences.{LpoOrients, precedences}
use Rattle.kb_lpo.proofs.PathOrderLaws.{first_bounds_more}
use Rattle.orders_tests.proofs.precedences.first_in_two_steps.Goals as goal

some_of : {X : Type 0} (n : ℕ) (xs : List X) → All (Contains xs) (take n xs)
some_of n xs k d h = subst (λ ys. Contains ys (slice_index_or (take n xs) k d)) (take-append-drop n xs) (Contains-append_left (take n xs) (drop n xs) (slice_index_or (take n xs) k d) (All-contains_itself (take n xs) k d h))

pub search_lpo_from-requires-clause-bound : goal.search_lpo_from-requires-clause-bound
search_lpo_from-requires-clause-bound c =
    let rules = c.args.rules.now in
    let some : List Rule = take c.args.place rules in
    let count = length c.args.sig.now in
    first_bounds_more count some rules c.in-Some.start (some_of c.args.place rules) (subst (IsFirst (λ prec. LpoOrients prec some) (precedences count)) c.in-Some.is c.in_ok-start.ensures)
