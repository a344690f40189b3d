use Rattle.std.proofs.Common.{◌≡◌, ap, rules, arith, length}
use Rattle.std.specs.Prelude.{filter}
use Rattle.std.proofs.lemmas.Fn.{filter_same}
use Rattle.mkb_board.proofs.Growing.{is_other, not_other, loses_one}
use Rattle.mkb_board.proofs.board.land.Goals as goal

kept : (c : goal.After-retain) → c.retain.new.self.items ≡ filter (is_other c.args.number) c.args.flight.now.items
kept c = filter_same _ (is_other c.args.number) _ (λ x b f' k. search rules) _ _ c.retain.ensures.filtered

pub returns-clause-items : goal.returns-clause-items
returns-clause-items c = kept c

pub returns-clause-fewer : goal.returns-clause-fewer
returns-clause-fewer c t i e = let k = ap length (kept c) in omega (arith, c.retain.new.self.ok.0, c.args.flight.now.ok.0, k, loses_one (is_other c.args.number) c.args.flight.now.items t i (not_other t c.args.number e))
