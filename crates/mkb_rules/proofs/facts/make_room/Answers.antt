use Rattle.std.proofs.Common.{◌≡◌, ◌∙◌, ◌≤◌, ◌<◌, ℕ, List, [], Option, None, length, set, get_or, ap, arith}
use Rattle.std.proofs.lemmas.List.{get_or_default}
use Rattle.kb_term.specs.declared.origin.Found.{Found}
use Rattle.mkb_rules.proofs.Tabled.{wider_set, wider_tabled, ranked_tabled}
use Rattle.mkb_rules.proofs.facts.make_room.Goals as goal

pub returns-clause-kept : goal.returns-clause-kept
returns-clause-kept c = λ fs tabled.
    let before = c.args.rows.now.items in
    let rows = c.add_rows.new.rows.items in
    let i = c.place-row.result in
    let there : i < length rows = omega (arith, c.in_ok-add_rows.ensures.count) in
    let row : c.index_mut.result.now ≡ get_or rows i [] = c.index_mut.ensures.value ∙ get_or_default rows i c.index_mut.result.now [] there in
    let longer : length (get_or rows i []) ≤ length c.make_room.new.self = omega (arith, c.make_room.ensures.longer, ap length row) in
    let same = λ (r : ℕ). c.make_room.ensures.kept r ∙ ap (λ (cells : List (Option Found)). get_or cells r None) row in
    wider_tabled rows (set rows i c.make_room.new.self) (wider_set rows i c.make_room.new.self there longer same) c.give.new.self fs
    (ranked_tabled c.args.ranks.now c.give.new.self c.in_ok-rank.ensures.more rows fs (wider_tabled before rows c.in_ok-add_rows.ensures.wider c.args.ranks.now fs tabled))
