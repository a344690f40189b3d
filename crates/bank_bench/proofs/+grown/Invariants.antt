use Rattle.bank_bench.proofs.+grown.Given as goal

abbrev pub decreases-grown : goal.decreases-grown
decreases-grown l = l.depth
