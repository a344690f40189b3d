use Rattle.std.proofs.Common.{◌≡◌, ◌∙◌, ap, refl, rules, List, Bool, not}
use Rattle.std.specs.Prelude.{filter}
use Rattle.kb_label.specs.Names.{Name, has}
use Rattle.kb_label.proofs.Ordered.{ordered-filter, ordered-without}
use Rattle.kb_label.proofs.Retained.{filtered_under}
use Rattle.kb_label.proofs.name_list.NameList.minus.Goals as goal

test : List Name → Name → Bool
test m = λ q. not (has m q)

kept : (c : goal.After-retain) → c.retain.new.self.items ≡ filter (test c.args.other.now) c.self.inside.names.items
unfolding test
kept c = filtered_under _ (λ f. f.0 ≡ c.args.other) (test c.args.other.now) (λ f x b g i k. search rules) _ _ _ refl c.retain.ensures.filtered

pub invariant_of-self : goal.invariant_of-self
invariant_of-self c = rw c.take_out.ensures.items (ordered-without c.in-Some.name.now c.self.inside.names.items c.self.invariant)

pub invariant_of-self-2 : goal.invariant_of-self-2
invariant_of-self-2 c = rw (kept c) (ordered-filter (test c.args.other.now) c.self.inside.names.items c.self.invariant)

pub returns : goal.returns
unfolding test
returns c = kept c ∙ ap (filter (test c.args.other.now)) c.self.view_is
