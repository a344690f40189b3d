use Rattle.std.proofs.Common.{ℕ, sym, subst, rules, length}
use Rattle.std.specs.List.Sorted.{IsBinarySearchResult, IsSearchInRange}
use Rattle.std.proofs.lemmas.Fn.{always_returns_same}
use Rattle.std.proofs.lemmas.List.{length-map}
use Rattle.kb_label.specs.Names.{has, name_cmp}
use Rattle.kb_label.proofs.Searched.{search-absent, search-found, search-left, search-present}
use Rattle.mkb_board.specs.Working.{processes_in}
use Rattle.mkb_board.specs.declared.working.Placed.{Placed}
use Rattle.mkb_board.proofs.Placing.{absent_names, found_there, left_names, names_searched, not_found}
use Rattle.mkb_board.proofs.working.place_in.Goals as goal

range : (c : goal.After-binary_search_by) → IsSearchInRange c.binary_search_by.result (length (processes_in c.args.working.now))
range c = subst {A = ℕ} (IsSearchInRange c.binary_search_by.result) (sym (length-map c.args.working.now (λ (it : Placed). it.process))) c.binary_search_by.ensures.bound

searched : (c : goal.After-binary_search_by) → IsBinarySearchResult (λ q. name_cmp q c.args.process.now) (processes_in c.args.working.now) c.binary_search_by.result
searched c = names_searched c.args.process.now c.args.working.now c.binary_search_by.result (c.binary_search_by.ensures.position (λ (it : Placed). name_cmp it.process c.args.process.now) (always_returns_same _ _ _ (λ a r f' called. search rules)))

pub returns-clause-present : goal.returns-clause-present
returns-clause-present c = search-present (processes_in c.args.working.now) c.args.process.now c.requires c.binary_search_by.result (range c) (searched c)

pub returns-clause-left : goal.returns-clause-left
returns-clause-left c =
    left_names c.args.process.now c.args.working.now c.binary_search_by.result (search-left (processes_in c.args.working.now) c.args.process.now c.requires c.binary_search_by.result (range c) (searched c))

pub returns-clause-has : goal.returns-clause-has
returns-clause-has c =
    found_there c.binary_search_by.result (has (processes_in c.args.working.now) c.args.process.now) (search-found (processes_in c.args.working.now) c.args.process.now c.requires c.binary_search_by.result (range c) (searched c))

pub returns-clause-absent : goal.returns-clause-absent
returns-clause-absent c =
    absent_names c.args.process.now c.args.working.now c.binary_search_by.result (search-absent (processes_in c.args.working.now) c.args.process.now c.requires c.binary_search_by.result (range c) (searched c))

pub returns-clause-none : goal.returns-clause-none
returns-clause-none c =
    not_found c.binary_search_by.result (has (processes_in c.args.working.now) c.args.process.now) (search-found (processes_in c.args.working.now) c.args.process.now c.requires c.binary_search_by.result (range c) (searched c))
