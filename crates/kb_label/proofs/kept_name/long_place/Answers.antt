use Rattle.std.proofs.Common.{rules}
use Rattle.std.specs.List.Sorted.{IsBinarySearchResult}
use Rattle.std.proofs.lemmas.Fn.{always_returns_same}
use Rattle.kb_label.specs.Names.{name_cmp}
use Rattle.kb_label.proofs.Searched.{search-place}
use Rattle.kb_label.proofs.kept_name.long_place.Goals as goal

searched : (c : goal.After-binary_search_by) → IsBinarySearchResult (λ q. name_cmp q c.args.name.now) c.args.names.now c.binary_search_by.result
searched c = c.binary_search_by.ensures.position (λ q. name_cmp q c.args.name.now) (always_returns_same _ _ _ (λ a r f' called. search rules))

pub returns : goal.returns
returns c = search-place c.args.names.now c.args.name.now c.requires c.binary_search_by.result c.binary_search_by.ensures.bound (searched c)
