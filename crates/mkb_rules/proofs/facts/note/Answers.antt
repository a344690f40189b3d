use Rattle.std.proofs.Common.{◌≡◌, ◌∙◌, ℕ, ap, sym, set, subst, get_or, List, Option, Some, None, ◌++◌, ◌∷◌, []}
use Rattle.std.proofs.lemmas.List.{get_or_default}
use Rattle.kb_term.specs.declared.origin.Found.{Found}
use Rattle.mkb_rules.specs.Ranks.{rank_at}
use Rattle.mkb_rules.specs.Tabled.{IsTabled, or_else, place}
use Rattle.mkb_rules.proofs.Tabled.{noted, noted_plain, noted_other}
use Rattle.mkb_rules.proofs.facts.note.Goals as goal

pub returns-then-not-is_plain-clause-tabled : goal.returns-then-not-is_plain-clause-tabled
returns-then-not-is_plain-clause-tabled c = λ fs tabled.
    noted_other c.args.ranks.now c.args.rows.now.items c.args.fact.now (sym c.is_plain.ensures ∙ c.if-not-is_plain.true) fs tabled

pub returns-in-Some-clause-tabled : goal.returns-in-Some-clause-tabled
returns-in-Some-clause-tabled c = λ fs tabled.
    let ranks = c.args.ranks.now in
    let rows = c.args.rows.now.items in
    let f = c.args.fact.now in
    let rank = c.in-Some.rank in
    let i = place f.node.0 f.side in
    let plain = sym c.is_plain.ensures ∙ c.if-not-is_plain.false in
    let given : rank_at ranks (place f.rule.node f.rule.dir) ≡ Some rank = ap (rank_at ranks) (sym c.place.ensures.value) ∙ sym c.in-Some.ensures.value in
    let only = λ (j : ℕ) (e : rank_at ranks j ≡ Some rank). c.in-Some.ensures.only j e ∙ c.place.ensures.value in
    let with_cell = λ (k : ℕ) (row : List (Option Found)). set rows k (set row rank (or_else (get_or row rank None) (Some f.found))) in
    let row : c.index_mut.result.now ≡ get_or rows i [] =
    c.index_mut.ensures.value ∙ ap (λ k. get_or rows k c.index_mut.result.now) c.place-row.ensures.value ∙ get_or_default rows i c.index_mut.result.now [] (c.requires.room plain).row in
    let same : set rows c.place-row.result c.note.new.self ≡ noted rows i rank f.found =
    ap (set rows c.place-row.result) c.note.ensures
    ∙ ap (λ k. with_cell k c.index_mut.result.now) c.place-row.ensures.value
    ∙ ap (with_cell i) row in
    subst {A = List (List (Option Found))} (λ rs. IsTabled ranks rs (fs ++ f ∷ [])) (sym same) (noted_plain ranks rows f rank c.requires.room plain given only fs tabled)
