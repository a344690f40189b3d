use Rattle.std.proofs.Common.{◌≡◌, ap, ◌∙◌, Bool, cond}
use Rattle.std.proofs.lemmas.Result.{IfOk-weaker}
use Rattle.kb_text.specs.Machine.{next_equation}
use Rattle.kb_syntax.specs.Looks.{at_equation, next_look}
use Rattle.kb_syntax.specs.Reader.{IsPassed}
use Rattle.kb_syntax.specs.Sides.{equation_front, token_at, where_so}
use Rattle.kb_syntax.proofs.PassLaws.{goes_on_passed, same_sign, went_on}
use Rattle.kb_syntax.proofs.notes.Notes.go_on.Goals as goal

pub returns : goal.returns
returns c =
    let e = equation_front c.args.equation.now in
    let g = equation_front c.next.new.self in
    let t = token_at c.args.form c.args.name.now in record {
      place = IfOk-weaker c.next.result (λ b. where_so b g ≡ next_equation e t) (λ b. where_so b (at_equation g) ≡ next_look (at_equation e) t) (λ b q. went_on e g t b c.requires q) c.next.ensures;
      passed = IfOk-weaker c.next.result (λ b. where_so b g ≡ next_equation e t) (λ b. IsPassed c.args.self.now (at_equation e) t c.pass_sign.new.self)
          (λ b q. goes_on_passed c.args.self.now c.pass_sign.new.self e t c.requires (c.pass_sign.ensures ∙ ap (λ (b : Bool). record c.args.self.now { size = cond b 0 c.args.self.now.size }) (same_sign c.args.form c.args.name.now))) c.next.ensures;
    }
