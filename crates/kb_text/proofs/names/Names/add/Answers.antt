use Rattle.std.proofs.Common.{◌≡◌, ap, sym, ◌∙◌, ◌∷◌, ◌++◌, [], false}
use Rattle.kb_text.specs.Names.{is_among}
use Rattle.kb_text.proofs.Firsts.{firsts-new, firsts-old}
use Rattle.kb_text.proofs.names.Names.add.Goals as goal

pub returns-in_ok-push-clause-firsts : goal.returns-in_ok-push-clause-firsts
returns-in_ok-push-clause-firsts c names e =
    let absent : is_among c.args.self.now c.args.name.now ≡ false = sym c.contains.ensures ∙ c.if-not-contains.true in
    c.in_ok-push.ensures.ok ∙ ap (λ n. c.args.self.now ++ n ∷ []) c.in_ok-from_slice.ensures.items ∙ firsts-new c.args.self.now names c.args.name.now e absent

pub returns-else-not-contains-clause-firsts : goal.returns-else-not-contains-clause-firsts
returns-else-not-contains-clause-firsts c names e = firsts-old c.args.self.now names c.args.name.now e (sym c.contains.ensures ∙ c.if-not-contains.false)
