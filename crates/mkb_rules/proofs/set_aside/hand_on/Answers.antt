use Rattle.std.proofs.Common.{◌≡◌, ◌∙◌, true, false, ap, subst, sym}
use Rattle.kb_label.specs.Names.{Name, child}
use Rattle.mkb_rules.specs.Accounts.{renamed, IsAccountOf}
use Rattle.mkb_rules.specs.declared.account.Account.{Account}
use Rattle.mkb_rules.proofs.set_aside.hand_on.Goals as goal

pub returns-in-Ok : goal.returns-in-Ok
returns-in-Ok c = λ xs right all.
    let first : c.renamed.result ≡ renamed (child c.args.p.now false) c.args.own = c.renamed.ensures ∙ ap (λ (q : Name). renamed q c.args.own) c.child-2.ensures in
    let second : c.in-Ok.copy ≡ renamed (child c.args.p.now true) c.args.own = c.in-Ok.ensures ∙ ap (λ (q : Name). renamed q c.args.own) c.child.ensures in
    c.put_in-in-Ok.ensures xs (subst {A = Account} (IsAccountOf xs) (sym second) (right true))
    (c.put_in.ensures xs (subst {A = Account} (IsAccountOf xs) (sym first) (right false)) all)

pub returns-in_default : goal.returns-in_default
returns-in_default c = λ xs right all.
    let first : c.renamed.result ≡ renamed (child c.args.p.now false) c.args.own = c.renamed.ensures ∙ ap (λ (q : Name). renamed q c.args.own) c.child-2.ensures in
    c.put_in.ensures xs (subst {A = Account} (IsAccountOf xs) (sym first) (right false)) all
