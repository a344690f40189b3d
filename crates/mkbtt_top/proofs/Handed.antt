-- What a caller hands on.
use Rattle.std.proofs.Common.{◌≡◌, sym, subst, Result, Ok, Err}
use Rattle.std.specs.Prelude.{IfErr, IfOk}
use Rattle.std.specs.Result.{IsErr, IsErrAnd}
use Rattle.std.proofs.lemmas.Bool.{false≢true}
use Rattle.mkbtt_top.specs.declared.reply.Stop.{Stop}

pub handed_on : {T : Type 0} (Claim : Stop → Type 0) (r : Result T Stop) (stop : Stop) → IsErr r → IsErrAnd r (λ e. e ≡ stop) → Claim stop → IfErr r Claim
handed_on Claim (Ok x) stop h k p = absurd (false≢true h)
handed_on Claim (Err e) stop h k p = subst {A = Stop} Claim (sym k) p

-- both hold of what was made
pub both_ok : {T E : Type 0} (r : Result T E) (P Q S : T → Type 0) → ((x : T) → P x → Q x → S x) → IfOk r P → IfOk r Q → IfOk r S
both_ok (Ok x) P Q S f p q = f x p q
both_ok (Err e) P Q S f p q = tt
