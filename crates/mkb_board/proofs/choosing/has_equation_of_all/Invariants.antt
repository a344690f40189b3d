use Rattle.std.proofs.Common.{◌≡◌, ◌-◌, length, filter}
use Rattle.mkb_model.specs.Plain.{equations_of, is_equation, numbers_from}
use Rattle.mkb_board.proofs.choosing.has_equation_of_all.Given as goal

-- no node so far is an equation of the process
abbrev pub invariant-loop-n : goal.invariant-loop-n
invariant-loop-n l = equations_of l.state l.p ≡ filter (is_equation l.state l.p) (numbers_from l.n (length l.state.nodes - l.n))
