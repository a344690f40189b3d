use Rattle.std.proofs.Common.{rules, ℕ, ◌≡◌, ◌<◌, List, length, get_or}
use Rattle.std.specs.Prelude.{Result, Ok, Err, IfOk}
use Rattle.std.specs.List.Sorted.{IsBinarySearchResult, IsSearchInRange}
use Rattle.std.proofs.lemmas.List.Sorted.{answers_always}
use Rattle.kb_label.specs.Names.{name_cmp}
use Rattle.kb_label.specs.NameOrder.{name_cmp-equal}
use Rattle.mkb_rules.specs.declared.account.Account.{Account}
use Rattle.mkb_rules.proofs.set_aside.place_of.Goals as goal

pub returns-clause-found : goal.returns-clause-found
returns-clause-found c =
    go c.binary_search_by_key.result c.binary_search_by_key.ensures.bound
    (c.binary_search_by_key.ensures.position (λ (a : Account). a.sizes.process) (answers_always _ _ _ (λ f a r g called. search rules)))
  where
    accounts : List Account
    accounts = c.args.accounts.now

    go : (r : Result ℕ ℕ) → IsSearchInRange r (length accounts) → IsBinarySearchResult (λ (a : Account). name_cmp a.sizes.process c.args.p.now) accounts r
        → IfOk r (λ i. (i < length accounts) × ((a : Account) → (get_or accounts i a).sizes.process ≡ c.args.p.now))
    go (Ok i) h found = (h, λ a. name_cmp-equal (get_or accounts i a).sizes.process c.args.p.now (found a))
    go (Err i) h found = tt
