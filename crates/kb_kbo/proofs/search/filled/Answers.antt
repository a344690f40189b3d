use Rattle.std.proofs.Common.{arith, ◌≡◌, ◌∙◌, ⊎_elim, get_or, subst, sym}
use Rattle.std.proofs.lemmas.Bool.{cases_eq}
use Rattle.std.proofs.lemmas.List.{get_or-set_other, length-set}
use Rattle.std.proofs.lemmas.Grind.{get_or-set_at, get_or_default_zero}
use Rattle.kb_kbo.proofs.search.filled.Goals as goal

pub loop-f-preserved : goal.loop-f-preserved
loop-f-preserved c =
    let all = c.loop-f.all in
    let f = c.loop-f.f in
    let ws = c.args.weights.now in
    record {
      long = length-set all f (get_or ws f 0) ∙ c.loop-f.invariant.long;
      written = λ k h. ⊎_elim (λ e. get_or-set_at all f k (get_or ws f 0) 0 e (omega arith) ∙ sym (get_or_default_zero ws f c.args.value (grind arith)) ∙ subst (λ z. get_or ws f c.args.value ≡ get_or ws z c.args.value) (sym e) (λ i. get_or ws f c.args.value)) (λ d. get_or-set_other all f k (get_or ws f 0) 0 d ∙ c.loop-f.invariant.written k (omega (arith, d))) (cases_eq k f);
      others = λ k h l. get_or-set_other all f k (get_or ws f 0) 0 (λ e. omega arith) ∙ c.loop-f.invariant.others k (omega arith) l;
    }
