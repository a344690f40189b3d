use Rattle.mkb_moves.proofs.Others.{others_left}
use Rattle.mkb_moves.proofs.laws.others_keep_their_state.Goals as goal

pub returns : goal.returns
returns c = λ e P n past b w t next. others_left P n past b w t e next
