use Rattle.std.proofs.Common.{position, ap, sym, ◌∙◌}
use Rattle.mkb_model.specs.Plain.{Done, done_in}
use Rattle.mkb_rules.specs.Keyed.{is_kept_for}
use Rattle.std.specs.Prelude.{List}
use Rattle.mkb_rules.proofs.DoneLists.{names_found, names_none}
use Rattle.mkb_rules.proofs.overlapped.OverlappedPairs.names.Goals as goal

pub returns-in-Some : goal.returns-in-Some
returns-in-Some c =
    let a = c.args.a in
    let b = c.args.b in
    ap (λ (ds : List Done). done_in ds a b) (sym c.self.view_is)
    ∙ names_found a b c.self.inside.pairs.items c.in-Some.place c.index.result.now (c.in-Some.ensures ∙ ap (position (is_kept_for a b)) (sym c.self.view_is)) c.index.ensures

pub returns-in-None : goal.returns-in-None
returns-in-None c = names_none c.args.a c.args.b c.args.self.now c.in-None.ensures
