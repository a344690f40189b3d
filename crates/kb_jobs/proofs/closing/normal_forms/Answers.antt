use Rattle.std.proofs.Common.{inl, inr, refl, ap, sym, Some}
use Rattle.kb_term.specs.View.{tree_of}
use Rattle.kb_rewrite.specs.NormalForm.{long, large}
use Rattle.kb_rewrite.specs.declared.normalising.Normal.TheVariants.{Form, Long, Large}
use Rattle.kb_jobs.proofs.Settling.{form_there}
use Rattle.kb_jobs.proofs.closing.normal_forms.Goals as goal

pub returns-in-Long : goal.returns-in-Long
returns-in-Long c =
    let n = c.in-Long.field-0 in
    inl (long n, form_there c.args.rules.now c.system-system.result (tree_of c.args.first.now) c.in_ok-normal_form.field-0 (Long n) c.requires c.system-system.ensures c.in-Long.is c.in_ok-normal_form.ensures, refl)

pub returns-in-Large : goal.returns-in-Large
returns-in-Large c =
    let l = c.in-Large.limit in
    inl (large l, form_there c.args.rules.now c.system-system.result (tree_of c.args.first.now) c.in_ok-normal_form.field-0 (Large l) c.requires c.system-system.ensures c.in-Large.is c.in_ok-normal_form.ensures, ap Some (sym c.reason_of.ensures))

pub returns-in-Long-2 : goal.returns-in-Long-2
returns-in-Long-2 c =
    let u = c.in-Form.u in
    let n = c.in-Form.field-1 in
    let k = c.in-Long-2.field-0 in
    let made = form_there c.args.rules.now c.system-system.result (tree_of c.args.first.now) c.in_ok-normal_form.field-0 (Form u n) c.requires c.system-system.ensures c.in-Form.is c.in_ok-normal_form.ensures in
    inr (tree_of u, (n, made), (long k, form_there c.args.rules.now c.system-system.result (tree_of c.args.second.now) c.in_ok-normal_form-in-Form.field-0 (Long k) c.requires c.system-system.ensures c.in-Long-2.is c.in_ok-normal_form-in-Form.ensures, refl))

pub returns-in-Large-2 : goal.returns-in-Large-2
returns-in-Large-2 c =
    let u = c.in-Form.u in
    let n = c.in-Form.field-1 in
    let l = c.in-Large-2.limit in
    let made = form_there c.args.rules.now c.system-system.result (tree_of c.args.first.now) c.in_ok-normal_form.field-0 (Form u n) c.requires c.system-system.ensures c.in-Form.is c.in_ok-normal_form.ensures in
    inr (tree_of u, (n, made), (large l, form_there c.args.rules.now c.system-system.result (tree_of c.args.second.now) c.in_ok-normal_form-in-Form.field-0 (Large l) c.requires c.system-system.ensures c.in-Large-2.is c.in_ok-normal_form-in-Form.ensures, ap Some (sym c.reason_of-in-Large-2.ensures)))

pub returns : goal.returns
returns c =
    let u = c.in-Form.u in
    let n = c.in-Form.field-1 in
    let v = c.in-Form-2.v in
    let m = c.in-Form-2.field-1 in (
      (n, form_there c.args.rules.now c.system-system.result (tree_of c.args.first.now) c.in_ok-normal_form.field-0 (Form u n) c.requires c.system-system.ensures c.in-Form.is c.in_ok-normal_form.ensures),
      (m, form_there c.args.rules.now c.system-system.result (tree_of c.args.second.now) c.in_ok-normal_form-in-Form.field-0 (Form v m) c.requires c.system-system.ensures c.in-Form-2.is c.in_ok-normal_form-in-Form.ensures),
    )
