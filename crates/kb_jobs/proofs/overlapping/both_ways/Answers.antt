use Rattle.std.proofs.Common.{[], ◌∷◌, ◌++◌, ap, sym, ◌∙◌}
use Rattle.kb_jobs.specs.Overlapping.{first_of, second_of}
use Rattle.kb_jobs.proofs.Adding.{one_way, two_ways}
use Rattle.kb_jobs.proofs.overlapping.both_ways.Goals as goal

pub returns-then-eq : goal.returns-then-eq
returns-then-eq c =
    let s = c.args.s.now in
    let g = c.in_ok-group_of.field-0 in
    one_way (first_of s) (second_of s) g c.push.new.self.items (c.in_ok-push.ensures.items ∙ ap (λ z. z ++ g ∷ []) c.new-groups.ensures.items) c.in_ok-group_of.ensures (sym c.eq.ensures ∙ c.if-eq.true)

pub returns : goal.returns
returns c =
    let s = c.args.s.now in
    let g = c.in_ok-group_of.field-0 in
    let f = c.in_ok-group_of-2.field-0 in
    two_ways (first_of s) (second_of s) g f c.push-2.new.self.items (c.in_ok-push-2.ensures.items ∙ ap (λ z. z ++ f ∷ []) (c.in_ok-push.ensures.items ∙ ap (λ z. z ++ g ∷ []) c.new-groups.ensures.items)) c.in_ok-group_of.ensures c.in_ok-group_of-2.ensures (sym c.eq.ensures ∙ c.if-eq.false)
