use Rattle.std.proofs.Common.{◌∙◌, ℕ, ◌<◌, take, ap, sym, subst}
use Rattle.std.specs.Prelude.{All}
use Rattle.std.proofs.lemmas.List.{map-append, length-map}
use Rattle.mkb_rules.specs.Parts.{plain_node, plain_nodes}
use Rattle.mkb_rules.specs.Nodes.{put_back}
use Rattle.mkb_rules.specs.declared.nodes.Replaced.{Replaced}
use Rattle.mkb_rules.proofs.PutBack.{before-longer}
use Rattle.mkb_rules.proofs.Finding.{found-ok, found-node, found-full, found-longer}
use Rattle.mkb_rules.proofs.nodes.Nodes.find_or_add.Goals as goal

pub returns-clause-ok : goal.returns-clause-ok
returns-clause-ok c =
    rw (← c.self.view_is)
    (found-ok c.self.inside.table c.find_or_add.new.self c.args.pair c.args.origin c.find_or_add.result c.find_or_add.ensures.present c.find_or_add.ensures.added c.find_or_add.ensures.full c.find_or_add.ensures.err)

pub returns-clause-node : goal.returns-clause-node
returns-clause-node c =
    found-node c.self.inside.table c.find_or_add.new.self c.args.pair c.args.origin c.find_or_add.result c.find_or_add.ensures.present c.find_or_add.ensures.added c.find_or_add.ensures.full c.find_or_add.ensures.err

pub returns-clause-full : goal.returns-clause-full
returns-clause-full c =
    rw (← c.self.view_is)
    (found-full c.self.inside.table c.find_or_add.new.self c.args.pair c.args.origin c.find_or_add.result c.find_or_add.ensures.present c.find_or_add.ensures.added c.find_or_add.ensures.full c.find_or_add.ensures.err)

pub returns-clause-before : goal.returns-clause-before
returns-clause-before c =
    let more = found-longer c.self.inside.table c.find_or_add.new.self c.args.pair c.args.origin c.find_or_add.result c.find_or_add.ensures.present c.find_or_add.ensures.added c.find_or_add.ensures.full c.find_or_add.ensures.err in
    rw (← c.self.view_is)
    (ap (λ xs. take c.self.inside.kept (put_back c.self.inside.replaced.items (plain_nodes xs))) more.1
    ∙ ap (λ ys. take c.self.inside.kept (put_back c.self.inside.replaced.items ys)) (map-append plain_node c.self.inside.table more.0)
    ∙ before-longer c.self.inside.kept c.self.inside.replaced.items (plain_nodes c.self.inside.table) (plain_nodes more.0)
    (rw (length-map c.self.inside.table plain_node) c.self.invariant.0)
    (subst {A = ℕ} (λ n. All (λ (r : Replaced). r.node.0 < n) c.self.inside.replaced.items) (sym (length-map c.self.inside.table plain_node)) c.self.invariant.1))
