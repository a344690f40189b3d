use Rattle.kb_laws.proofs.Stated.{complete_state_is_system}
use Rattle.kb_laws.proofs.laws.complete_state.Goals as goal

pub returns : goal.returns
returns c = complete_state_is_system
