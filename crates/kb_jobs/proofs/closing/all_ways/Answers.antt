use Rattle.std.proofs.Common.{ℕ, suc, ◌≡◌, ◌+◌, ap, length, sym, subst, List, map, take, flat_map, arith}
use Rattle.mkb_model.specs.Proposals.{NamedRule}
use Rattle.kb_jobs.specs.Rules.{listed}
use Rattle.kb_jobs.specs.Groups.{AreGroupsOf}
use Rattle.kb_jobs.proofs.Reduced.{slice_there}
use Rattle.kb_jobs.proofs.Adding.{flat_next, take_length}
use Rattle.kb_jobs.proofs.Settling.{named_length}
use Rattle.kb_jobs.proofs.closing.all_ways.Goals as goal

pub loop-i-preserved : goal.loop-i-preserved
loop-i-preserved c =
    let rs = c.args.rules.now in
    let L = listed rs in
    let i = c.loop-i.i in
    let f : NamedRule → List (NamedRule × NamedRule) = λ x. map (λ (y : NamedRule). (x, y)) L in
    let x = slice_there L i (omega (arith, named_length rs.names.items rs.rules c.requires.as_many, ap length c.as_slice-count.ensures, c.loop-i-test.true)) in
    let next : suc i ≡ i + 1 = omega arith in
    subst {A = ℕ} (λ n. AreGroupsOf (flat_map f (take n L)) c.push_row.new.groups.items) next
    (subst {A = List (NamedRule × NamedRule)} (λ z. AreGroupsOf z c.push_row.new.groups.items) (sym (flat_next f L i x.0 x.1)) (c.in_ok-push_row.ensures x.0 (flat_map f (take i L)) x.1 c.loop-i.invariant))

pub returns : goal.returns
returns c =
    let rs = c.args.rules.now in
    let L = listed rs in
    let all : take c.loop-i.i L ≡ L = take_length L c.loop-i.i (omega (arith, named_length rs.names.items rs.rules c.requires.as_many, ap length c.as_slice-count.ensures, c.loop-i-test.false)) in
    subst {A = List NamedRule} (λ z. AreGroupsOf (flat_map (λ (x : NamedRule). map (λ (y : NamedRule). (x, y)) L) z) c.loop-i.groups.items) all c.loop-i.invariant
