use Rattle.std.proofs.Common.{◌∙◌, ◌++◌, ◌∷◌, [], List, Option, length, ap, subst, sym, arith, length-append}
use Rattle.kb_term.specs.declared.origin.Found.{Found}
use Rattle.mkb_rules.specs.Tabled.{IsWider}
use Rattle.mkb_rules.proofs.Tabled.{wider_same, wider_then, wider_behind}
use Rattle.mkb_rules.proofs.facts.add_rows.Goals as goal

pub loop-init : goal.loop-init
loop-init c = record { count = omega (arith, c.len-counter.ensures, c.args.rows.now.ok.0); wider = wider_same c.args.rows.now.items }

pub loop-preserved : goal.loop-preserved
loop-preserved c =
    let before = c.args.rows.now.items in
    let rows = c.loop.rows.items in
    let longer = c.in_ok-push.ensures.items ∙ ap (λ (r : List (Option Found)). rows ++ r ∷ []) c.new.ensures in
    record {
      count = omega (arith, c.loop.invariant.count, ap length c.in_ok-push.ensures.items, length-append rows (c.new.result ∷ []));
      wider = subst {A = List (List (Option Found))} (IsWider before) (sym longer) (wider_then before rows (rows ++ [] ∷ []) c.loop.invariant.wider (wider_behind rows));
    }
