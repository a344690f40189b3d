use Rattle.std.proofs.Common.{◌≡◌, ◌+◌, inl, inr, arith, ap, sym, ◌∙◌, length, length-append, false, [], ◌∷◌}
use Rattle.mkb_rules.proofs.Apart.{apart_by_length}
use Rattle.mkb_rules.proofs.set_aside.is_apart.Goals as goal

pub returns-then-len : goal.returns-then-len
returns-then-len c = sym (apart_by_length c.args.p.now c.args.q.now (inl (omega (arith, c.if-len.true, c.len.ensures.count, c.len-2.ensures.count))))

pub returns-then-len-2 : goal.returns-then-len-2
returns-then-len-2 c =
    let longer : length c.args.left.now ≡ length c.args.p.now + 1 = ap length c.requires.0 ∙ length-append c.args.p.now (false ∷ []) in
    sym (apart_by_length c.args.p.now c.args.q.now (inr (omega (arith, longer, c.if-len-2.true, c.len-3.ensures.count, c.len-4.ensures.count))))
