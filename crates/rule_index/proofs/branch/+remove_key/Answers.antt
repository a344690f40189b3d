use Rattle.std.proofs.Common.{◌≡◌}
use Rattle.rule_index.proofs.Entries.{found_inner}
use Rattle.rule_index.proofs.branch.+remove_key.Goals as goal

pub returns-then-within-clause-found : goal.returns-then-within-clause-found
returns-then-within-clause-found t c =
    let d : c.deref_mut-in-Node.result.now ≡ c.in-Node.inner.value = cc in
    (λ h. found_inner _ _ _ _ _ _ _ _ c.in-Node.is d (c.remove_key-within.ensures.found.0 h), λ h. c.if-within.true)
