use Rattle.std.proofs.Common.{ℕ, suc, ◌≡◌, ◌+◌, ◌<◌, ◌∙◌, ap, subst, List, length, get_or, take, arith}
use Rattle.kb_lemmas.proofs.Membership.{slice_contains}
use Rattle.kb_term.specs.Rule.{Rule}
use Rattle.mkb_model.specs.Proposals.{NamedRule}
use Rattle.kb_jobs.specs.Rules.{listed}
use Rattle.kb_jobs.specs.Closing.{AddsRow}
use Rattle.kb_jobs.proofs.Reduced.{read_at}
use Rattle.kb_jobs.proofs.Adding.{take_length}
use Rattle.kb_jobs.proofs.Settling.{row_more, named_length}
use Rattle.kb_jobs.proofs.closing.push_row.Goals as goal

pub group_of-requires-clause-outer : goal.group_of-requires-clause-outer
group_of-requires-clause-outer c =
    let rules = c.args.rules.now.rules in
    let r = c.index-listed-i.result in
    c.requires.rules.each r (slice_contains rules c.args.i r (read_at rules c.args.i r c.requires.there (c.index-listed-i.is ∙ ap (λ (l : List Rule). get_or l c.args.i r) c.as_slice-listed.ensures)))

pub group_of-requires-clause-inner : goal.group_of-requires-clause-inner
group_of-requires-clause-inner c =
    let rules = c.args.rules.now.rules in
    let j = c.loop-j.j in
    let r = c.index-listed-j.result in
    let inside : j < length rules = omega (arith, ap length c.as_slice-listed.ensures, c.loop-j-test.true) in
    c.requires.rules.each r (slice_contains rules j r (read_at rules j r inside (c.index-listed-j.is ∙ ap (λ (l : List Rule). get_or l j r) c.as_slice-listed.ensures)))

pub loop-j-preserved : goal.loop-j-preserved
loop-j-preserved c =
    let names = c.args.rules.now.names.items in
    let rules = c.args.rules.now.rules in
    let i = c.args.i in
    let j = c.loop-j.j in
    let many = c.requires.rules.as_many in
    let inside : j < length rules = omega (arith, ap length c.as_slice-listed.ensures, c.loop-j-test.true) in
    let a = c.index.result.now in
    let r = c.index-listed-i.result in
    let d = c.index-in-loop-j.result.now in
    let q = c.index-listed-j.result in
    let next : suc j ≡ j + 1 = omega arith in
    subst {A = ℕ} (λ n. AddsRow (listed c.args.rules.now) (take n (listed c.args.rules.now)) i c.args.groups.now.items c.push.new.self.items) next
    (row_more names rules i j a d r q c.args.groups.now.items c.loop-j.groups.items c.push.new.self.items c.in_ok-group_of.field-0
    (read_at names i a (omega (arith, many, c.requires.there)) c.index.ensures) (read_at rules i r c.requires.there (c.index-listed-i.is ∙ ap (λ (l : List Rule). get_or l i r) c.as_slice-listed.ensures)) (read_at names j d (omega (arith, many, inside)) c.index-in-loop-j.ensures) (read_at rules j q inside (c.index-listed-j.is ∙ ap (λ (l : List Rule). get_or l j q) c.as_slice-listed.ensures))
    c.in_ok-push.ensures.items c.in_ok-group_of.ensures c.loop-j.invariant)

pub returns : goal.returns
returns c =
    let rs = c.args.rules.now in
    let L = listed rs in
    let all : take c.loop-j.j L ≡ L = take_length L c.loop-j.j (omega (arith, named_length rs.names.items rs.rules c.requires.rules.as_many, ap length c.as_slice-listed.ensures, c.loop-j-test.false)) in
    subst {A = List NamedRule} (λ z. AddsRow L z c.args.i c.args.groups.now.items c.loop-j.groups.items) all c.loop-j.invariant
