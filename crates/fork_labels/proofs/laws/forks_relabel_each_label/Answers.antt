use Rattle.fork_labels.proofs.Relabelled.{relabels_each, stays_under, comes_of_forks}
use Rattle.fork_labels.proofs.laws.forks_relabel_each_label.Goals as goal

pub returns-clause-relabels : goal.returns-clause-relabels
returns-clause-relabels c = relabels_each

pub returns-clause-under : goal.returns-clause-under
returns-clause-under c = stays_under

pub returns-clause-living : goal.returns-clause-living
returns-clause-living c = comes_of_forks
