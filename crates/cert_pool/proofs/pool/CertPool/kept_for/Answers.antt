use Rattle.std.proofs.Common.{◌∙◌, sym, List, All, Contains, subst}
use Rattle.kb_term.specs.Rule.{Rule}
use Rattle.kb_cert.proofs.FamilyLaws.{one_family}
use Rattle.cert_pool.proofs.pool.CertPool.kept_for.Goals as goal

pub returns-then-are_among : goal.returns-then-are_among
returns-then-are_among c = record {
  family = one_family c.in_ok-found.found.now.family ∙ sym (one_family c.args.keys.now.family);
  same = c.is_same_signature.ensures c.if-is_same_signature.true;
  some = subst {A = List Rule} (λ some. All (Contains c.args.rules.now) some) c.deref-then-is_same_signature.ensures.value (c.are_among.ensures c.if-are_among.true);
  holds = c.in_ok-found.ensures;
}
