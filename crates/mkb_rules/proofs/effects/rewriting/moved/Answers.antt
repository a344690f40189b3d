use Rattle.std.proofs.Common.{◌≤◌, ◌<◌, ◌∙◌, ℕ, Option, Some, length, ap, sym, subst, arith}
use Rattle.std.proofs.lemmas.Result.{on_ok_weaker}
use Rattle.mkb_model.specs.Effects.{most_nodes, with_nodes}
use Rattle.mkb_rules.specs.Rewriting.{wanted_by}
use Rattle.mkb_rules.specs.declared.effects.rewriting.Target.{Target}
use Rattle.mkb_rules.proofs.Moving.{length-lost, wanted-lost}
use Rattle.mkb_rules.proofs.effects.rewriting.moved.Goals as goal

pub gain-requires : goal.gain-requires
gain-requires c = omega (arith, c.requires.few, ap length c.in_ok-lose.ensures.ok, length-lost c.args.n.0 c.args.side c.args.sources.now c.args.nodes.now.now)

pub returns-in-Some-clause-room : goal.returns-in-Some-clause-room
returns-in-Some-clause-room c =
    let same = ap (λ xs. length (with_nodes (wanted_by (Some c.in-Some.target)) xs)) c.in_ok-lose.ensures.ok
    ∙ wanted-lost c.args.n.0 c.args.side c.args.sources.now c.args.nodes.now.now (Some c.in-Some.target)
    ∙ ap (λ (o : Option Target). length (with_nodes (wanted_by o) c.args.nodes.now.now)) (sym c.in-Some.is) in
    on_ok_weaker c.gain.result (λ few. subst {A = ℕ} (λ m. m ≤ most_nodes) same few) c.gain.ensures.room

pub returns-in-Some-clause-full : goal.returns-in-Some-clause-full
returns-in-Some-clause-full c =
    let same = ap (λ xs. length (with_nodes (wanted_by (Some c.in-Some.target)) xs)) c.in_ok-lose.ensures.ok
    ∙ wanted-lost c.args.n.0 c.args.side c.args.sources.now c.args.nodes.now.now (Some c.in-Some.target)
    ∙ ap (λ (o : Option Target). length (with_nodes (wanted_by o) c.args.nodes.now.now)) (sym c.in-Some.is) in
    λ e. subst {A = ℕ} (λ m. most_nodes < m) same (c.gain.ensures.full e)
