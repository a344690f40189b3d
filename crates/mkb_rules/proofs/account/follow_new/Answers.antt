use Rattle.std.proofs.Common.{◌≡◌, ◌∙◌, ◌<◌, ◌++◌, ◌∷◌, [], sym, subst, arith, length, get_or, set}
use Rattle.std.proofs.lemmas.List.{get_or-set_same, get_or-set_other, length-set}
use Rattle.mkb_rules.specs.Accounts.{IsAccountOf}
use Rattle.mkb_rules.specs.declared.account.Account.{Account}
use Rattle.mkb_rules.proofs.Paying.{same_or_less}
use Rattle.mkb_rules.proofs.account.follow_new.Goals as goal

pub loop-i-preserved : goal.loop-i-preserved
loop-i-preserved c =
    let i = c.loop-i.i in
    let now = c.loop-i.accounts.items in
    let a = c.index_mut.result.now in
    let new = c.follow_new.new.self in
    let there : i < length now = omega (arith, c.loop-i.invariant.count, c.loop-i.invariant.end, c.loop-i-test.true) in
    let was : a ≡ get_or c.args.accounts.now.items i a = c.index_mut.ensures.value ∙ c.loop-i.invariant.todo i a (omega arith) there in
    record {
      count = length-set now i new ∙ c.loop-i.invariant.count;
      end = c.loop-i.invariant.end;
      done = λ xs x bare n all j d u v. same_or_less (λ z. IsAccountOf (xs ++ x ∷ []) (get_or (set now i new) z d)) i j u
          (subst {A = Account} (IsAccountOf (xs ++ x ∷ [])) (sym (get_or-set_same now i new d there)) (c.follow_new.ensures xs x bare n (subst {A = Account} (IsAccountOf xs) (sym was) (all i a (omega (arith, there, c.loop-i.invariant.count))))))
          (λ w. subst {A = Account} (IsAccountOf (xs ++ x ∷ [])) (sym (get_or-set_other now i j new d (λ e. absurd (omega (arith, e, w))))) (c.loop-i.invariant.done xs x bare n all j d w (omega (arith, v, length-set now i new))));
      todo = λ j d u v. get_or-set_other now i j new d (λ e. absurd (omega (arith, e, u))) ∙ c.loop-i.invariant.todo j d (omega (arith, u)) (omega (arith, v, length-set now i new));
    }

pub returns : goal.returns
returns c = λ xs x bare n all k d h. c.loop-i.invariant.done xs x bare n all k d (omega (arith, h, c.loop-i.invariant.count, c.loop-i.invariant.end, c.loop-i-test.false)) h
