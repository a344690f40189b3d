use Rattle.std.proofs.Common.{◌*◌, ◌+◌}
use Rattle.kb_lpo.proofs.search.+decide.Given as goal

abbrev pub decreases-decide : goal.decreases-decide
decreases-decide l = 2 * l.pairs

abbrev pub decreases-decide_with : goal.decreases-decide_with
decreases-decide_with l = 2 * l.pairs + 1
