use Rattle.std.proofs.Common.{◌≡◌, rules, List, Bool, sym, subst, All}
use Rattle.std.specs.Prelude.{filter}
use Rattle.std.proofs.lemmas.Fn.{filter_same}
use Rattle.std.proofs.lemmas.List.Elements.{filter_passes, All-filter}
use Rattle.kb_label.specs.Names.{Name}
use Rattle.mkb_rules.specs.Accounts.{IsAccountOf, IsApart, is_apart}
use Rattle.mkb_rules.specs.declared.account.Account.{Account}
use Rattle.mkb_rules.proofs.set_aside.SetAside.for_fork_of.Goals as goal

apart : Name → Account → Bool
apart p a = is_apart p a.sizes.process

kept : (c : goal.After-retain) → c.retain.new.self.items ≡ filter (apart c.args.p.now) c.taken_out-own.new.accounts.items
unfolding apart
kept c = filter_same _ (apart c.args.p.now) _ (λ x b f' k. search rules) _ _ c.retain.ensures.filtered

pub returns : goal.returns
unfolding apart
returns c = λ xs all. record {
  own = c.taken_out-own.ensures.own xs all;
  others = subst {A = List Account} (All (IsAccountOf xs)) (sym (kept c)) (All-filter (apart c.args.p.now) (IsAccountOf xs) c.taken_out-own.new.accounts.items (c.taken_out-own.ensures.others xs all));
  apart = subst {A = List Account} (All (IsApart c.args.p.now)) (sym (kept c)) (filter_passes (apart c.args.p.now) c.taken_out-own.new.accounts.items);
}
