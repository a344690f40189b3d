use Rattle.mkb_board.proofs.Followable.{commits_on, nodes_after, settles_then}
use Rattle.mkb_board.proofs.laws.commits_can_be_followed.Goals as goal

pub returns-clause-commit : goal.returns-clause-commit
returns-clause-commit c = commits_on

pub returns-clause-nodes : goal.returns-clause-nodes
returns-clause-nodes c = nodes_after

pub returns-clause-settles : goal.returns-clause-settles
returns-clause-settles c = settles_then
