use Rattle.kb_cert.proofs.read.+read_symbols.Given as goal

abbrev pub decreases-read_symbols : goal.decreases-read_symbols
decreases-read_symbols l = l.count
