use Rattle.std.proofs.Common.{◌∙◌, rules, ap, List, Bool, not}
use Rattle.std.proofs.lemmas.Fn.{filter_same}
use Rattle.mkb_model.specs.Plain.{Plain, is_over}
use Rattle.mkb_board.specs.Working.{processes_in}
use Rattle.mkb_board.specs.declared.working.Placed.{Placed}
use Rattle.mkb_board.proofs.Placing.{kept_names}
use Rattle.mkb_board.proofs.working.keep_going.Goals as goal

goes_on : Plain → Placed → Bool
goes_on b it = not (is_over b it.process)

pub returns-clause-items : goal.returns-clause-items
unfolding goes_on
returns-clause-items c =
    let b = c.args.state.now in
    ap (λ (l : List Placed). processes_in l) (filter_same _ (goes_on b) _ (λ x b f' k. search rules) _ _ c.retain.ensures.filtered) ∙ kept_names (λ p. not (is_over b p)) c.args.working.now.items
