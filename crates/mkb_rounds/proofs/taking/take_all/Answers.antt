use Rattle.std.proofs.Common.{rules, ℕ, ◌+◌, ◌≡◌, ◌∙◌, refl, sym, ap, subst, length, List, true, false}
use Rattle.std.proofs.lemmas.Bool.{not-true}
use Rattle.work_crew.specs.declared.shared.Assignment.{Assignment}
use Rattle.mkb_rounds.specs.Playing.{IsTakingRound}
use Rattle.mkb_rounds.proofs.Playing.{begins, not_false}
use Rattle.mkb_rounds.proofs.taking.take_all.Goals as goal

pub loop-init : goal.loop-init
loop-init g c = (
  subst {A = List Assignment} (IsTakingRound c.args.board.now) (sym c.requires.empty) (begins c.args.board.now c.requires.between c.requires.undecided),
  ap (λ (z : List Assignment). length z) c.requires.empty,
  record { problem = refl; settings = refl },
)

pub returns-then-not-branch-clause-ok : goal.returns-then-not-branch-clause-ok
returns-then-not-branch-clause-ok g c = c.in_ok-take_one.ensures.last (search (rules, not-true))

pub loop-preserved : goal.loop-preserved
loop-preserved g c =
    let took : c.in_ok-take_one.field-0 ≡ true = search (rules, not_false) in
    let i = c.loop.invariant in
    let s = c.in_ok-take_one.ensures.same in (
      c.in_ok-take_one.ensures.more took,
      c.in_ok-take_one.ensures.count took ∙ ap (λ (n : ℕ). n + 1) i.1,
      record { problem = s.problem ∙ i.2.problem; settings = s.settings ∙ i.2.settings },
    )
