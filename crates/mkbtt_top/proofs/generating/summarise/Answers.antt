use Rattle.std.proofs.Common.{sym, subst, arith}
use Rattle.kb_term.specs.Signature.{Problem, IsWithinLimits}
use Rattle.mkbtt_top.proofs.Generated.{generated_within}
use Rattle.mkbtt_top.proofs.generating.summarise.Goals as goal

pub finish-requires : goal.finish-requires
finish-requires g c =
    let within = subst {A = Problem} IsWithinLimits (sym c.in-Ok.ensures) (generated_within c.args.number c.requires.most) in
    (c.type_bounds.sync-R, (c.type_bounds.sync-G, (within, (omega arith, omega arith))))
