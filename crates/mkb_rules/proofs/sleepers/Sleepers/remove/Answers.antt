use Rattle.std.proofs.Common.{arith, ◌≡◌, ◌∙◌, ap, refl, rules, List, [], ◌∷◌, Bool, true, false, not}
use Rattle.std.specs.Prelude.{filter, ◌||◌}
use Rattle.std.proofs.lemmas.Fn.{filter_same}
use Rattle.std.proofs.lemmas.List.Elements.{filter_agree}
use Rattle.kb_label.specs.Names.{Name, has, name_eq, minus}
use Rattle.kb_label.proofs.Ordered.{ordered-filter}
use Rattle.mkb_rules.proofs.sleepers.Sleepers.remove.Goals as goal

differs : Name → Name → Bool
differs p q = not (name_eq q p)

kept : (c : goal.After-retain) → c.retain.new.self.items ≡ filter (differs c.args.p.now) c.self.inside.names.items
unfolding differs
kept c = filter_same _ (differs c.args.p.now) _ (λ x b f' k. search rules) _ _ c.retain.ensures.filtered

pub invariant_of-self : goal.invariant_of-self
invariant_of-self c = (rw (kept c) (ordered-filter (differs c.args.p.now) c.self.inside.names.items c.self.invariant.0), omega (arith, c.retain.ensures.capacity, c.self.invariant.1))

or_false : (b : Bool) → not b ≡ not (b || false)
or_false true = refl
or_false false = refl

without : (p : Name) (l : List Name) → filter (differs p) l ≡ minus l (p ∷ [])
unfolding differs
without p l = filter_agree (λ q. not (name_eq q p)) (λ q. not (has (p ∷ []) q)) (λ q. or_false (name_eq q p)) l

pub returns : goal.returns
returns c = kept c ∙ ap (filter (differs c.args.p.now)) c.self.view_is ∙ without c.args.p.now c.args.self.now
