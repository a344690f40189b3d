use Rattle.std.proofs.Common.{arith, refl, sym, ◌∙◌, subst}
use Rattle.std.proofs.lemmas.Bool.{false≢true}
use Rattle.kb_text.proofs.IdentifierLaws.{tested_signature}
use Rattle.kb_report.proofs.NamesRead.{named_at, differ_at, IsName, name_at, named_more, differ_more}
use Rattle.kb_report.proofs.symbols.are_names.Goals as goal

pub loop-i-preserved : goal.loop-i-preserved
loop-i-preserved c =
    let es = c.args.symbols.now in
    let i = c.loop-i.i in
    let e = c.index-symbols-i.result in
    record {
      named = named_more es i c.loop-i.invariant.named (λ d. subst IsName (name_at es i e d c.deref.result.now c.loop-i-test.true c.deref.ensures.value) (c.is_name.ensures.0 c.if-not-is_name.false));
      differ = differ_more es i c.loop-i.invariant.differ (c.is_new.ensures.0 c.if-not-is_new.false);
    }

pub returns-then-not-is_name : goal.returns-then-not-is_name
returns-then-not-is_name c = (
  λ h. absurd (false≢true h),
  λ s.
      let es = c.args.symbols.now in
      let i = c.loop-i.i in
      let e = c.index-symbols-i.result in
      absurd (false≢true (sym c.if-not-is_name.true ∙ c.is_name.ensures.1 (subst IsName (sym (name_at es i e e c.deref.result.now c.loop-i-test.true c.deref.ensures.value)) (named_at es s i e c.loop-i-test.true)))),
)

pub returns-then-not-is_new : goal.returns-then-not-is_new
returns-then-not-is_new c = (
  λ h. absurd (false≢true h),
  λ s. absurd (false≢true (sym c.if-not-is_new.true ∙ c.is_new.ensures.1 (λ j d l. differ_at c.args.symbols.now s j c.loop-i.i d l c.loop-i-test.true))),
)

pub returns : goal.returns
returns c = (
  λ h. tested_signature c.args.symbols.now
      (λ k d h. c.loop-i.invariant.named k d (omega (arith, h, c.loop-i-test.false)))
      (λ i j d p q. c.loop-i.invariant.differ i j d p (omega (arith, q, c.loop-i-test.false))),
  λ h. refl,
)
