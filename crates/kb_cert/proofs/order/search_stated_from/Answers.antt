use Rattle.std.specs.Prelude.{Some, None}
use Rattle.std.proofs.Common.{subst, refl}
use Rattle.kb_cert.specs.declared.certificate.Certificate.TheVariants.{Lpo, Linear, Kbo}
use Rattle.kb_cert.specs.Family.{IsLowerBound}
use Rattle.kb_cert.specs.declared.family.Family.TheVariants.{Stated}
use Rattle.kb_cert.proofs.Parts.{found_text, precedence_bound, interpretation_bound, kbo_bound, no_precedence_before, no_interpretation_before, precedence_found, later_found, kbo_found}
use Rattle.kb_cert.proofs.order.search_stated_from.Goals as goal

pub search_lpo_from-requires-clause-bound : goal.search_lpo_from-requires-clause-bound
search_lpo_from-requires-clause-bound c = precedence_bound c.args.sig.now c.args.rules.now c.in-Lpo.least (subst (IsLowerBound Stated c.args.sig.now c.args.rules.now) c.in-Lpo.is c.requires.start)

pub search_later_from-requires-clause-start : goal.search_later_from-requires-clause-start
search_later_from-requires-clause-start c = interpretation_bound c.args.sig.now c.args.rules.now c.in-Linear.least (subst (IsLowerBound Stated c.args.sig.now c.args.rules.now) c.in-Linear.is c.requires.start)

pub search_kbo_from-requires-clause-start : goal.search_kbo_from-requires-clause-start
search_kbo_from-requires-clause-start c = kbo_bound c.args.sig.now c.args.rules.now c.in-Kbo.least (subst (IsLowerBound Stated c.args.sig.now c.args.rules.now) c.in-Kbo.is c.requires.start)

pub returns-in-Some : goal.returns-in-Some
returns-in-Some c =
    let h = precedence_found c.args.sig.now c.args.rules.now c.in_ok-prec-in-Lpo.field-0 c.in-Some.prec c.in-Some.is c.in_ok-prec-in-Lpo.ensures in
    record { first = h; text = found_text c.args.sig.now c.args.rules.now (Some (Lpo c.in-Some.prec)) h }

pub returns-in_ok-search_later-in-None : goal.returns-in_ok-search_later-in-None
returns-in_ok-search_later-in-None c =
    let found = c.in_ok-search_later-in-None.field-0 in
    let h = later_found c.args.sig.now c.args.rules.now c.in_ok-prec-in-Lpo.field-0 found c.in-None.is c.in_ok-prec-in-Lpo.ensures c.in_ok-search_later-in-None.ensures in
    record { first = h; text = found_text c.args.sig.now c.args.rules.now found h }

pub returns-in_ok-search_later_from-in-Linear : goal.returns-in_ok-search_later_from-in-Linear
returns-in_ok-search_later_from-in-Linear c =
    let found = c.in_ok-search_later_from-in-Linear.field-0 in
    let start = subst (IsLowerBound Stated c.args.sig.now c.args.rules.now) c.in-Linear.is c.requires.start in
    let n = no_precedence_before c.args.sig.now c.args.rules.now (Linear c.in-Linear.least) (λ p e. cc) start in
    let h = later_found c.args.sig.now c.args.rules.now None found refl n c.in_ok-search_later_from-in-Linear.ensures in
    record { first = h; text = found_text c.args.sig.now c.args.rules.now found h }

pub returns-in_ok-search_kbo_from-in-Kbo : goal.returns-in_ok-search_kbo_from-in-Kbo
returns-in_ok-search_kbo_from-in-Kbo c =
    let start = subst (IsLowerBound Stated c.args.sig.now c.args.rules.now) c.in-Kbo.is c.requires.start in
    let n = no_precedence_before c.args.sig.now c.args.rules.now (Kbo c.in-Kbo.least) (λ p e. cc) start in
    let m = no_interpretation_before c.args.sig.now c.args.rules.now c.in-Kbo.least start in
    let k = kbo_found c.args.sig.now c.args.rules.now None c.in_ok-search_kbo_from-in-Kbo.field-0 c.kbo.result refl m c.in_ok-search_kbo_from-in-Kbo.ensures c.kbo.ensures in
    let h = later_found c.args.sig.now c.args.rules.now None c.kbo.result refl n k in
    record { first = h; text = found_text c.args.sig.now c.args.rules.now c.kbo.result h }
