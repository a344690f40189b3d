use Rattle.std.proofs.Common.{sym, ◌∙◌, ap, Bool, true, false, ◌≡◌, refl, vec_len}
use Rattle.std.specs.Prelude.{is_some, ◌==◌}
use Rattle.kb_text.specs.Machine.{is_whole as whole_term}
use Rattle.kb_syntax.specs.Sides.{side_front}
use Rattle.kb_text.proofs.Vectors.{empty_is, empty_not}
use Rattle.kb_syntax.proofs.SideLaws.{whole-empty, whole-some, whole-open}
use Rattle.kb_syntax.proofs.side.Side.is_whole.Goals as goal

pub returns-in-Whole : goal.returns-in-Whole
returns-in-Whole c = c.is_empty.ensures ∙ go (vec_len c.args.self.now.outer == 0) refl
  where
    go : (b : Bool) → (vec_len c.args.self.now.outer == 0) ≡ b → b ≡ is_some (whole_term (side_front c.args.self.now))
    go true e = sym (ap is_some (whole-empty c.args.self.now c.in-Whole.field-0 c.in-Whole.is (empty_is c.args.self.now.outer e)))
    go false e = sym (ap is_some (whole-some c.args.self.now c.in-Whole.field-0 c.in-Whole.is (empty_not c.args.self.now.outer e)))

pub returns-in-Open : goal.returns-in-Open
returns-in-Open c = sym (ap is_some (whole-open c.args.self.now c.in-Open.field-0 c.in-Open.is))
