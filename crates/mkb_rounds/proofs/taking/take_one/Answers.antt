use Rattle.std.proofs.Common.{rules, ℕ, ◌+◌, ◌≡◌, ◌∙◌, sym, ap, subst, length, List, [], ◌∷◌, ◌++◌}
use Rattle.std.proofs.lemmas.List.{length-append}
use Rattle.mkb_board.specs.Takes.{IsTakenBy}
use Rattle.mkb_board.specs.declared.answers.Taken.{Taken}
use Rattle.mkb_board.proofs.Growing.{after_push}
use Rattle.work_crew.specs.declared.shared.Assignment.{Assignment}
use Rattle.work_crew.specs.Moments.{assigned, moment_at}
use Rattle.mkb_rounds.specs.Playing.{IsTakingRound}
use Rattle.mkb_rounds.proofs.Playing.{takes_more}
use Rattle.mkb_rounds.proofs.taking.take_one.Goals as goal

pub returns-in-Job-clause-more : goal.returns-in-Job-clause-more
returns-in-Job-clause-more g c = λ _.
    let old = c.args.board.now in
    let new = c.take.new.self in
    let a : Assignment = assigned c.wants_cost.result c.take.new.self.plain c.in-Job.ticket c.in-Job.snapshot in
    let pushed : c.push.new.self.items ≡ c.args.round.now.items ++ a ∷ [] = after_push c.push.result _ _ _ (search rules) c.push.ensures.items ∙ ap (λ (z : List Assignment). z ++ c.new-assignment.result ∷ []) c.reserve.ensures.items ∙ ap (λ (x : Assignment). c.args.round.now.items ++ x ∷ []) c.new-assignment.ensures in
    subst {A = List Assignment} (IsTakingRound new) (sym pushed)
    (takes_more old new c.args.round.now.items c.in-Job.ticket c.in-Job.snapshot (moment_at c.wants_cost.result new.plain c.in-Job.ticket) c.requires.taking (subst {A = Taken} (IsTakenBy old new 1) c.in-Job.is c.in_ok-ticket.ensures.ok) c.requires.few)

pub returns-in-Job-clause-count : goal.returns-in-Job-clause-count
returns-in-Job-clause-count g c = λ _.
    let a : Assignment = assigned c.wants_cost.result c.take.new.self.plain c.in-Job.ticket c.in-Job.snapshot in
    let pushed : c.push.new.self.items ≡ c.args.round.now.items ++ a ∷ [] = after_push c.push.result _ _ _ (search rules) c.push.ensures.items ∙ ap (λ (z : List Assignment). z ++ c.new-assignment.result ∷ []) c.reserve.ensures.items ∙ ap (λ (x : Assignment). c.args.round.now.items ++ x ∷ []) c.new-assignment.ensures in
    ap (λ (z : List Assignment). length z) pushed ∙ length-append c.args.round.now.items (a ∷ [])
